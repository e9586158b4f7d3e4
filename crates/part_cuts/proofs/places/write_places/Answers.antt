use Rattle.std.proofs.Common.{◌≡◌, ◌∙◌, ◌+◌, ◌<◌, ◌∷◌, ◌++◌, [], ap, arith, length, map, sum, sym, take, take_all}
use Rattle.std.proofs.lemmas.List.{map_more, take_more_set}
use Rattle.std.proofs.lemmas.List.Sums.{sum_by_from}
use Rattle.operators.proofs.FoldLaws.{scan_of_push}
use Rattle.cvl_base.specs.Folds.{fold_of, scan_of}
use Rattle.part_cuts.proofs.Told.{last_set, sum_more, sum_within}
use Rattle.part_cuts.proofs.places.write_places.Goals as goal

pub overflow_add-place : goal.overflow_add-place
overflow_add-place g c =
    let told = c.args.told.now in let x = c.index-told-k.result in
    omega (arith, sum_within g.T.Told.length_of told c.loop-k.k x x c.loop-k-test.true c.index-told-k.is, c.requires.few, c.loop-k.invariant.place, c.length_of-place.ensures)

pub loop-k-preserved : goal.loop-k-preserved
loop-k-preserved g c =
    let told = c.args.told.now in let k = c.loop-k.k in let x = c.index-told-k.result in let f = g.T.Told.length_of in
    let within : k < length told = c.loop-k-test.true in
    let before = map f (take k told) in
    let so_far : fold_of ◌+◌ 0 before ≡ c.loop-k.place = sum_by_from (λ n. n) 0 before ∙ omega (arith, c.loop-k.invariant.place) in
    let more : map f (take (k + 1) told) ≡ before ++ f x ∷ [] = map_more f told k x within ∙ ap (λ y. before ++ f y ∷ []) (sym c.index-told-k.is) in
    record {
      place = omega (arith, sum_more f told k x x within c.index-told-k.is, c.loop-k.invariant.place, c.length_of-place.ensures);
      placed = take_more_set c.loop-k.places k c.loop-k.place (omega (arith, within, c.requires.room, c.loop-k.auto.places))
          ∙ ap (λ t. t ++ c.loop-k.place ∷ []) c.loop-k.invariant.placed ∙ ap (λ n. scan_of ◌+◌ 0 before ++ n ∷ []) (sym so_far)
          ∙ sym (scan_of_push ◌+◌ 0 before (f x)) ∙ ap (scan_of ◌+◌ 0) (sym more);
    }

pub returns : goal.returns
returns g c =
    let told = c.args.told.now in let k = c.loop-k.k in let f = g.T.Told.length_of in
    let all : take k told ≡ told = take_all k told c.loop-k-test.false in
    last_set c.loop-k.places k (length told) c.loop-k.place (omega (arith, c.loop-k-test.false, c.loop-k.auto.k-end)) (c.loop-k.auto.places ∙ c.requires.room)
    ∙ ap (λ t. t ++ c.loop-k.place ∷ []) c.loop-k.invariant.placed
    ∙ ap (λ n. scan_of ◌+◌ 0 (map f (take k told)) ++ n ∷ []) c.loop-k.invariant.place
    ∙ ap (λ ts. scan_of ◌+◌ 0 (map f ts) ++ sum (map f ts) ∷ []) all
