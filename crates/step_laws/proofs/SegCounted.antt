-- Counts of true flags are sums, if each true flag is 1 and each other 0.
use Rattle.std.proofs.Common.{◌≡◌, ◌+◌, ◌≤◌, ◌∙◌, ℕ, pos, Bool, true, false, List, [], ◌∷◌, length, length-append, map, sum, Ok, refl, sym, ap, arith, fold, cond}
use Rattle.std.proofs.lemmas.Int.{ints, int_wrap_fits}
use Rattle.std.proofs.lemmas.List.{length-map}
use Rattle.std.proofs.lemmas.List.Elements.{All-map}
use Rattle.std.proofs.lemmas.List.Sums.{sum_by-cons}
use Rattle.std.specs.Int.{w32}
use Rattle.std.specs.List.{AllPass}
use Rattle.operators.specs.Conversions.{integer_of}
use Rattle.cvl_base.proofs.Nests.{joined-cut}
use Rattle.cvl_base.specs.Folds.{fold_of}
use Rattle.cvl_base.specs.Integers.{sum_of}
use Rattle.cvl_base.specs.ItemWords.{is_number}
use Rattle.cvl_base.specs.Limits.{most_places}
use Rattle.cvl_base.specs.Lists.{joined}
use Rattle.cvl_base.specs.Nests.{cut_of}
use Rattle.cvl_base.specs.Packs.{count_of}
use Rattle.cvl_base.specs.SegmentedCalls.{counts_of, seg_reduce_of}
use Rattle.flag_calls.proofs.InSegments.{counts_fit}
use Rattle.flag_calls.specs.Flags.{count_in, flag_of, flags_of}
use Rattle.scan_walks.proofs.Segmented.{seg_reduce-fits}
use Rattle.segment_parts.specs.ReduceCalls.{one_if_true}
use Rattle.step_laws.proofs.StartReduces.{cut-read}

pub numbers : (bytes : List ℕ) → AllPass is_number (map one_if_true bytes)
numbers bytes = All-map (λ x. is_number x ≡ true) one_if_true bytes (λ k d within. number (flag_of (_)))
  where
    number : (b : Bool) → is_number (integer_of b) ≡ true
    number true = refl
    number false = refl

one : (a : ℕ) (b : Bool) → a + cond b 1 0 ≤ most_places → sum_of (pos a) (integer_of b) ≡ pos (a + cond b 1 0)
one a true few = int_wrap_fits w32 (pos (a + 1)) (omega (arith, ints, few))
one a false few = int_wrap_fits w32 (pos (a + 0)) (omega (arith, ints, few))

-- ones that are added up do not wrap
ones : (a : ℕ) (bytes : List ℕ) → a + length bytes ≤ most_places → fold sum_of (pos a) (map one_if_true bytes) ≡ pos (a + count_of (flags_of bytes))
ones a [] few = ap pos (omega arith)
ones a (b ∷ bytes) few =
    let count = cond (flag_of b) 1 0 in
    let bit : count ≤ 1 = at_most_one (flag_of b) in
    let next = one a (flag_of b) (omega (arith, bit, few)) in
    let counts : count_of (flags_of (b ∷ bytes)) ≡ count + count_of (flags_of bytes) = sum_by-cons (λ (f : Bool). cond f 1 0) (flag_of b) (flags_of bytes) in
    ap (λ z. fold sum_of z (map one_if_true bytes)) next ∙ ones (a + count) bytes (omega (arith, bit, few)) ∙ ap pos (omega (arith, counts))
  where
    at_most_one : (b : Bool) → cond b 1 0 ≤ 1
    at_most_one true = omega arith
    at_most_one false = omega arith

pub count-sums : (bytes : List ℕ) → length bytes ≤ most_places → fold_of sum_of (pos 0) (map one_if_true bytes) ≡ count_in bytes
count-sums bytes few = ones 0 bytes (omega (arith, few)) ∙ ap pos (omega arith)

each-count : (lists : List (List ℕ)) → length (joined lists) ≤ most_places → map (fold_of sum_of (pos 0)) (map (map one_if_true) lists) ≡ map count_in lists
each-count [] few = refl
each-count (bytes ∷ lists) few =
    let both = length-append bytes (joined lists) in
    let first = count-sums bytes (omega (arith, both, few)) in let rest = each-count lists (omega (arith, both, few)) in
    (λ i. first i ∷ rest i)

-- the sums of segments are their counts
pub seg-counts : (segments bytes : List ℕ) → sum segments ≡ length bytes → length bytes ≤ most_places
    → seg_reduce_of sum_of (pos 0) (map one_if_true bytes) segments ≡ counts_of (flags_of bytes) segments
seg-counts segments bytes fits few =
    let cut : joined (cut_of segments bytes) ≡ bytes = joined-cut segments bytes fits in
    seg_reduce-fits sum_of (pos 0) (map one_if_true bytes) segments (fits ∙ sym (length-map bytes one_if_true))
    ∙ ap Ok (ap (map (fold_of sum_of (pos 0))) (cut-read one_if_true segments bytes) ∙ each-count (cut_of segments bytes) (omega (arith, ap length cut, few)))
    ∙ sym (counts_fit segments bytes fits)
