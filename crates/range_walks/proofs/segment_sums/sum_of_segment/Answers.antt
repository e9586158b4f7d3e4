use Rattle.range_walks.proofs.Cited.{◌≡◌, ◌∙◌, true, map, subst, sym, ap, AllPass, All-map, All-take, fold_of, fold_of_is_item}
use Rattle.range_walks.proofs.segment_sums.sum_of_segment.Goals as goal

pub sum_of_few-requires-2-clause-before : goal.sum_of_few-requires-2-clause-before
sum_of_few-requires-2-clause-before g c =
    let m = g.M.Monoid in
    let item = g.E.Reading.item in
    let four = c.split_at.result.0.now in
    let own = subst (λ xs. AllPass (λ x. m.is_item (item x)) xs) (sym c.split_at.ensures.front) (All-take (λ x. m.is_item (item x) ≡ true) 4 c.args.xs.now c.requires.items) in
    ap m.is_item (c.sum_from-2.ensures ∙ ap (λ u. fold_of m.join u (map item four)) c.unit-2.ensures)
    ∙ fold_of_is_item c.know_laws.ensures (map item four) (All-map (λ y. m.is_item y ≡ true) item four own)
