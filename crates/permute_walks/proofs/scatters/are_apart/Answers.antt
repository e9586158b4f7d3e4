use Rattle.permute_walks.proofs.Cited.{◌∙◌, ◌≤◌, length, ap, sym, arith, eq-eqb, eqb-true, count_of, nobody}
use Rattle.permute_walks.proofs.Scattered.{marks_full, marks_tell}
use Rattle.permute_walks.proofs.scatters.are_apart.Goals as goal

pub returns-then-mark_each : goal.returns-then-mark_each
returns-then-mark_each c =
    let index = c.args.index.now in
    let m = length c.args.marks.now in
    let few : length index ≤ nobody = omega (arith, c.requires.in_limit.0) in
    let count = c.true_count.ensures.value ∙ ap count_of (c.mark_each.ensures.marked c.if-mark_each.true) in (
      λ same. marks_tell index m few (sym count ∙ eqb-true c.true_count.result (length index) same),
      λ right. eq-eqb c.true_count.result (length index) (count ∙ marks_full index m few right),
    )
