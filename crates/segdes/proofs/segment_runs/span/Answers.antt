use Rattle.segdes.proofs.Cited.{arith}
use Rattle.segdes.proofs.Searched.{none_spanned, spanned}
use Rattle.segdes.proofs.segment_runs.span.Goals as goal

pub returns-then-begin-end : goal.returns-then-begin-end
returns-then-begin-end g c =
    none_spanned c.args.d.now c.args.first c.args.past c.starts_before.result c.saturating_sub-begin.result c.starts_before-end.result c.requires.in_order c.requires.within
    c.saturating_sub-begin.ensures c.starts_before.ensures.in_count c.starts_before-end.ensures.in_count c.starts_before.ensures.before c.starts_before.ensures.others
    c.starts_before-end.ensures.before c.starts_before-end.ensures.others c.if-begin-end.true

pub returns : goal.returns
returns g c =
    spanned c.args.d.now c.args.first c.args.past c.starts_before.result c.saturating_sub-begin.result c.starts_before-end.result c.requires.in_order c.requires.within
    c.saturating_sub-begin.ensures c.starts_before.ensures.in_count c.starts_before-end.ensures.in_count c.starts_before.ensures.before c.starts_before.ensures.others
    c.starts_before-end.ensures.before c.starts_before-end.ensures.others _ c.if-begin-end.false (omega (arith, c.start.ensures.value))
