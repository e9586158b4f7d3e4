use Rattle.std.proofs.Common.{◌≡◌, ◌∙◌, ◌<◌, ◌∷◌, ◌++◌, [], arith, length, pos, rules, sym, take, to_z, w64}
use Rattle.std.proofs.lemmas.List.{take_more_set}
use Rattle.std.proofs.lemmas.List.Sums.{fold_more}
use Rattle.operators.proofs.FoldLaws.{scan_of_more}
use Rattle.cvl_base.specs.Folds.{fold_of}
use Rattle.long_sums.specs.LongSums.{long_sum_of}
use Rattle.part_records.proofs.sums.write_carries.Goals as goal

pub loop-k-preserved : goal.loop-k-preserved
loop-k-preserved c =
    let sums = c.args.sums.now in let k = c.loop-k.k in let before = c.loop-k.invariant in
    let within : k < length sums = omega (arith, c.loop-k-test.true) in
    let sum : to_z w64 c.loop-k.so_far-bits ≡ fold_of long_sum_of (pos 0) (take k sums) = cc in
    record {
      sum = search (rules, fold_more);
      scanned = take_more_set c.loop-k.out k (to_z w64 c.loop-k.so_far-bits) (omega (arith, within, c.requires))
          ∙ (λ t. before.scanned t ++ sum t ∷ []) ∙ sym (scan_of_more long_sum_of (pos 0) sums k within);
    }
