use Rattle.std.proofs.Common.{◌∙◌, ◌+◌, ap, sym, option_map, position}
use Rattle.std.proofs.lemmas.List.{take_rest}
use Rattle.segment_values.proofs.FirstPlaces.{behind_failing}
use Rattle.segment_values.proofs.first_trues.first_place.Goals as goal

pub returns-in_err-place-clause-value : goal.returns-in_err-place-clause-value
returns-in_err-place-clause-value g c =
    let over = c.count_passed_over-over in
    let xs = c.args.xs.now in
    let test = g.T.Single.value in
    c.from_residual.ensures ∙ ap (option_map (λ place. over.result + place)) (c.in_err-place.ensures.value ∙ ap (position test) (take_rest xs over.result))
    ∙ sym (behind_failing test over.result xs over.ensures.within over.ensures.none)

pub returns-clause-value : goal.returns-clause-value
returns-clause-value g c =
    let over = c.count_passed_over-over in
    let xs = c.args.xs.now in
    let test = g.T.Single.value in
    ap (option_map (λ place. over.result + place)) (c.in_ok-place.ensures.value ∙ ap (position test) (take_rest xs over.result))
    ∙ sym (behind_failing test over.result xs over.ensures.within over.ensures.none)
