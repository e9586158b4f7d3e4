use Rattle.permute_walks.proofs.Cited.{◌∙◌, ◌≤◌, length, ap, sym, arith, count_ones, sum_by, all_destinations, last_senders, nobody, sent_marks}
use Rattle.std.proofs.Common.{eq-eqb, eqb-true}
use Rattle.permute_walks.proofs.MarkWords.{marks_count}
use Rattle.permute_walks.proofs.Scattered.{marks_full, marks_tell}
use Rattle.permute_scatters.proofs.marks.are_apart.Goals as goal

pub returns-then-mark_each : goal.returns-then-mark_each
returns-then-mark_each c =
    let index = c.args.index.now in
    let m = c.args.places in
    let few : length index ≤ nobody = omega (arith, c.requires.in_limit.0) in
    let count = c.count_marks.ensures ∙ ap (sum_by count_ones) (c.mark_each.ensures.marked c.if-mark_each.true)
    ∙ marks_count (sent_marks (last_senders 0 (all_destinations index) 0 m)) in (
      λ same. marks_tell index m few (sym count ∙ eqb-true c.count_marks.result (length index) same),
      λ right. eq-eqb c.count_marks.result (length index) (count ∙ marks_full index m few right),
    )
