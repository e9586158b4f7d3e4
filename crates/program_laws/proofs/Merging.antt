-- Merges whose flags are cut in two.
use Rattle.call_laws.proofs.Cited.{◌≡◌, ◌+◌, ◌++◌, ℕ, Bool, true, false, not, List, length, map, refl, arith, Ok}
use Rattle.call_laws.proofs.Cited.{nat_tests, length-append, Fault, fault, fault_if, after, count_of, in_turn}
use Rattle.cvl_base.specs.declared.fault.FaultNo.TheVariants.{LengthMismatch}
use Rattle.flag_merges.specs.Merges.{are_counts, merge_of, merged}
use Rattle.flag_merges.proofs.BySegments.{merged-append}
use Rattle.flag_merges.proofs.Counted.{count-append, count-append-not, falses_fit, trues_fit}

counts-two : (flags more : List Bool) (trues falses others rest : ℕ) → count_of flags ≡ trues → count_of (map not flags) ≡ falses
    → are_counts (flags ++ more) (trues + others) (falses + rest) ≡ are_counts more others rest
counts-two flags more trues falses others rest is also_is = grind (arith, nat_tests, count-append flags more, count-append-not flags more)

fault-after : {X : Type 0} (b : Bool) (f : Fault) (done others : List X) → fault_if b f (Ok (done ++ others)) ≡ after done (fault_if b f (Ok others))
fault-after true f done others = refl
fault-after false f done others = refl

pub merge-two : {X : Type 0} (flags more : List Bool) (xs others ys rest : List X) → are_counts flags (length xs) (length ys) ≡ true
    → merge_of (flags ++ more) (xs ++ others) (ys ++ rest) ≡ in_turn (merge_of flags xs ys) (merge_of more others rest)
merge-two flags more xs others ys rest are =
    let trues = trues_fit flags (length xs) (length ys) are in
    let falses = falses_fit flags (length xs) (length ys) are in
    let counts = counts-two flags more (length xs) (length ys) (length others) (length rest) trues falses in
    rw (are, length-append xs others, length-append ys rest, counts, merged-append flags more xs others ys rest trues falses)
    (fault-after (not (are_counts more (length others) (length rest))) (fault LengthMismatch) (merged flags xs ys) (merged more others rest))
