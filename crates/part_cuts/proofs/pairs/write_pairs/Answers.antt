use Rattle.std.proofs.Common.{◌∙◌, ◌<◌, ◌∷◌, ◌++◌, [], ap, arith, length, map, sym, take, take_all}
use Rattle.std.specs.List.{zip}
use Rattle.std.proofs.lemmas.List.{take_more_set}
use Rattle.std.proofs.lemmas.Slice.Zip.{length-zip}
use Rattle.part_cuts.proofs.Paired.{one_of_all, places_more}
use Rattle.part_cuts.proofs.pairs.write_pairs.Goals as goal

pub place-requires : goal.place-requires
place-requires g c =
    let xs = c.args.firsts.now in let ys = c.args.seconds.now in let has = g.P.Paired.has_place in
    one_of_all xs ys c.loop-k.k c.loop-k-test.true c.requires.pairs has c.requires.each

pub loop-k-preserved : goal.loop-k-preserved
loop-k-preserved g c =
    let xs = c.args.firsts.now in let ys = c.args.seconds.now in let k = c.loop-k.k in let place = g.P.Paired.place in
    let within : k < length xs = c.loop-k-test.true in
    take_more_set c.loop-k.places k c.place.result (omega (arith, within, c.requires.pairs, c.requires.room, c.loop-k.auto.places))
    ∙ ap (λ t. t ++ c.place.result ∷ []) c.loop-k.invariant
    ∙ ap (λ n. map (λ p. place p.0 p.1) (take k (zip xs ys)) ++ n ∷ []) c.place.ensures
    ∙ sym (places_more xs ys k within c.requires.pairs place)

pub returns : goal.returns
returns g c =
    let xs = c.args.firsts.now in let ys = c.args.seconds.now in let k = c.loop-k.k in
    sym (take_all k c.loop-k.places (omega (arith, c.loop-k-test.false, c.requires.pairs, c.requires.room, c.loop-k.auto.places)))
    ∙ c.loop-k.invariant
    ∙ ap (map (λ p. g.P.Paired.place p.0 p.1)) (take_all k (zip xs ys) (omega (arith, length-zip xs ys, c.loop-k-test.false)))
