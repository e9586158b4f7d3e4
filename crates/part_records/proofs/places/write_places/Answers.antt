use Rattle.std.proofs.Common.{◌≡◌, ◌∙◌, ◌+◌, ◌<◌, ◌∷◌, ◌++◌, [], arith, length, sum, sym, take}
use Rattle.std.proofs.lemmas.List.{take_more_set}
use Rattle.std.proofs.lemmas.List.Sums.{sum_by_from, sum_by_more}
use Rattle.operators.proofs.FoldLaws.{scan_of_more}
use Rattle.cvl_base.specs.Folds.{fold_of}
use Rattle.part_records.proofs.places.write_places.Goals as goal

pub loop-k-preserved : goal.loop-k-preserved
loop-k-preserved c =
    let lengths = c.args.lengths.now in let k = c.loop-k.k in let before = c.loop-k.invariant in
    let within : k < length lengths = omega (arith, c.loop-k-test.true) in
    let folded : fold_of ◌+◌ 0 (take k lengths) ≡ 0 + sum (take k lengths) = sum_by_from (λ n. n) 0 (take k lengths) in
    let so_far : fold_of ◌+◌ 0 (take k lengths) ≡ c.loop-k.place = folded ∙ omega (arith, before.place) in
    record {
      place = omega (arith, sum_by_more (λ n. n) lengths k 0 within, before.place, c.length-place.ensures);
      placed = take_more_set c.loop-k.places k c.loop-k.place (omega (arith, within, c.requires.room))
          ∙ (λ t. before.placed t ++ sym so_far t ∷ []) ∙ sym (scan_of_more ◌+◌ 0 lengths k within);
    }
