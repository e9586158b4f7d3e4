use Rattle.std.proofs.Common.{◌≡◌, ◌∙◌, ◌+◌, ◌<◌, ◌∷◌, ◌++◌, [], arith, length, sum, sym, take}
use Rattle.std.proofs.lemmas.List.{take_more_set}
use Rattle.std.proofs.lemmas.List.Sums.{sum_by_from, sum_by_more}
use Rattle.cvl_base.proofs.FoldLaws.{scan_of_more}
use Rattle.cvl_base.specs.Folds.{fold_of}
use Rattle.run_parts.proofs.places.write_places.Goals as goal

pub loop-k-preserved : goal.loop-k-preserved
loop-k-preserved c =
    let counts = c.args.counts.now in let k = c.loop-k.k in let before = c.loop-k.invariant in
    let within : k < length counts = c.loop-k-test.true in
    let folded : fold_of ◌+◌ 0 (take k counts) ≡ 0 + sum (take k counts) = sum_by_from (λ n. n) 0 (take k counts) in
    let so_far : fold_of ◌+◌ 0 (take k counts) ≡ c.loop-k.place = folded ∙ omega (arith, before.place) in
    record {
      place = omega (arith, sum_by_more (λ n. n) counts k 0 within, before.place);
      placed = take_more_set c.loop-k.places k c.loop-k.place (omega (arith, within, c.requires.room, c.loop-k.auto.places))
          ∙ (λ t. before.placed t ++ sym so_far t ∷ []) ∙ sym (scan_of_more ◌+◌ 0 counts k within);
    }
