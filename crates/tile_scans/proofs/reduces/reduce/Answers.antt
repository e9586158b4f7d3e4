use Rattle.tile_scans.proofs.Cited.{◌≤◌, false, arith, length, map, take, refl, ap, ◌∙◌, None, length-map, map-id, take_all, fold_of, seg_join, seg_unit, continued, continued_summed}
use Rattle.tile_scans.specs.TiledSums.{flagged}
use Rattle.tile_scans.proofs.Flagged.{length-flagged}
use Rattle.tile_scans.proofs.reduces.reduce.Goals as goal

pub returns : goal.returns
returns g c =
    let m = g.M.Monoid in
    let v = c.new-vector.result in
    let xs = map (λ x. x) v.elements.now in
    let long : length (continued xs) ≤ length c.args.a.now = omega (arith, length-flagged None xs refl, length-map v.elements.now (λ x. x), ap length c.new-vector.ensures.elements) in
    c.before_place.ensures.value
    ∙ ap (λ s. (fold_of (seg_join m.join) (seg_unit m.unit) (take (length c.args.a.now) (flagged s xs))).1) c.new-vector.ensures.segments
    ∙ ap (λ ws. (fold_of (seg_join m.join) (seg_unit m.unit) ws).1) (take_all (length c.args.a.now) (continued xs) long)
    ∙ ap (λ w. w.1) (continued_summed m.join false m.unit xs)
    ∙ ap (fold_of m.join m.unit) (map-id v.elements.now ∙ c.new-vector.ensures.elements)
