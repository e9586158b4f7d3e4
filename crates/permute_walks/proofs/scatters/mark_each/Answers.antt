use Rattle.permute_walks.proofs.Cited.{rules, ◌∙◌, ◌<◌, length, arith, index_is}
use Rattle.permute_walks.proofs.Scattered.{marks_more, marks_none, named_below, right_inside}
use Rattle.permute_walks.proofs.scatters.mark_each.Goals as goal

pub loop-i-init : goal.loop-i-init
loop-i-init c = c.requires.fresh ∙ marks_none c.args.index.now (length c.args.marks.now) (omega (arith, c.requires.in_limit.0))

pub returns-then-named-places-clause-inside : goal.returns-then-named-places-clause-inside
returns-then-named-places-clause-inside c = λ right.
    let index = c.args.index.now in
    let m = length c.args.marks.now in
    let inside = right_inside index m (omega (arith, c.requires.in_limit.0)) c.loop-i.i-index c.loop-i-test.true right in
    absurd (omega (arith, named_below m _ c.cast_unsigned-named.result (search rules) c.cast_unsigned-named.ensures inside, c.if-named-places.true))

pub loop-i-preserved : goal.loop-i-preserved
loop-i-preserved c =
    let m = length c.args.marks.now in
    let d = c.cast_unsigned-named.result in
    let below : d < m = omega (arith, c.if-named-places.false) in
    let names = index_is _ d (search rules) c.cast_unsigned-named.ensures (omega (arith, below, c.requires.in_limit.1)) in
    marks_more c.args.index.now m (omega (arith, c.requires.in_limit.0)) c.loop-i.i-index c.loop-i-test.true d names below c.loop-i.marks c.loop-i.invariant
