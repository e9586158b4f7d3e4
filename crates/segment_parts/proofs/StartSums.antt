-- The sums of the segments that start in a part, one after another, where what goes on behind the part is added to the last one.
use Rattle.std.proofs.Common.{◌≡◌, ◌≢◌, ◌+◌, ◌+ℤ◌, ◌<◌, ◌≤◌, ◌∙◌, ℕ, ℤ, pos, Bool, true, false, List, [], ◌∷◌, ◌++◌, length, take, drop, get_or, set, Ok, Err, Some, None, is_some}
use Rattle.std.proofs.Common.{if◌then◌else◌}
use Rattle.std.proofs.Common.{refl, sym, ap, arith, eqb, length-drop, cond, min, unwrap_or, ⊎_elim, true≢false}
use Rattle.std.proofs.lemmas.Bool.Decides.{eqb_tells}
use Rattle.std.proofs.lemmas.List.{drop_min, drop_more, take_min, take_more, take_more_set}
use Rattle.std.proofs.lemmas.List.Sums.{prefix_len_passes}
use Rattle.cvl_base.specs.CheckedSums.{fitting}
use Rattle.cvl_base.specs.Exact.{total_of}
use Rattle.cvl_base.specs.ItemWords.{is_number}
use Rattle.range_walks.specs.Ranges.{reduces_of}
use Rattle.scan_walks.specs.Fronts.{fitting_front}
use Rattle.scan_walks.proofs.FrontLaws.{some-fits}
use Rattle.scan_walks.proofs.Segmented.{length-reduces_of}
use Rattle.scan_walks.proofs.Fitted.{all_fit, overflows}
use Rattle.cvl_base.specs.declared.fault.FaultNo.TheVariants.{Overflow}
use Rattle.cvl_base.specs.Faults.{fault_at}
use Rattle.cvl_base.specs.Gives.{◌>>=◌}
use Rattle.part_calls.specs.Sums.{all_fitting}
use Rattle.segment_parts.proofs.Starts.{length-join_last, part-fits}
use Rattle.segment_parts.specs.CheckedSums.{checked_part_reduces_of}
use Rattle.segment_parts.specs.Reduces.{is_part, join_last}

not_number : (z : ℤ) (b : Bool) → is_some (if b then Some z else None) ≡ false → b ≡ false
not_number z true none = cc
not_number z false none = refl

module _ (behind : ℤ) where
  abbrev pub last_sums : List ℕ → List ℤ → List ℤ
  last_sums lengths xs = join_last ◌+ℤ◌ (reduces_of ◌+ℤ◌ (pos 0) lengths xs) behind

  pub length-last_sums : (lengths : List ℕ) (xs : List ℤ) → length (last_sums lengths xs) ≡ length lengths
  length-last_sums lengths xs = length-join_last ◌+ℤ◌ (reduces_of ◌+ℤ◌ (pos 0) lengths xs) behind ∙ length-reduces_of ◌+ℤ◌ (pos 0) xs lengths

  -- the sum of a segment, the last one or not
  abbrev pub sum_here : Bool → List ℤ → ℤ
  sum_here is_last segment = if is_last then total_of segment +ℤ behind else total_of segment

  first-sum : (n : ℕ) (ns : List ℕ) (xs : List ℤ) (is_last : Bool) → (is_last ≡ true → length ns ≡ 0) → (is_last ≡ false → 0 < length ns)
      → last_sums (n ∷ ns) xs ≡ sum_here is_last (take n xs) ∷ last_sums ns (drop n xs)
  first-sum n [] xs true none some = refl
  first-sum n [] xs false none some = absurd (omega (arith, some refl))
  first-sum n (m ∷ ms) xs true none some = absurd (omega (arith, none refl))
  first-sum n (m ∷ ms) xs false none some = refl

  module _ (s : ℕ) (lengths : List ℕ) (rest segment others : List ℤ) (n : ℕ) (is_last : Bool) (lt : s < length lengths) (last : is_last ≡ eqb (s + 1) (length lengths))
      (is_n : n ≡ min (get_or lengths s 0) (length rest)) (is_segment : segment ≡ take n rest) (is_others : others ≡ drop n rest) where
    -- it is the last one if no other is behind it
    none_behind : is_last ≡ true → length (drop (s + 1) lengths) ≡ 0
    none_behind is_true =
        ⊎_elim (λ (is : (eqb (s + 1) (length lengths) ≡ true) × (s + 1 ≡ length lengths)). omega (arith, length-drop (s + 1) lengths, is.1))
        (λ (is : (eqb (s + 1) (length lengths) ≡ false) × (s + 1 ≢ length lengths)). absurd (true≢false (sym is_true ∙ last ∙ is.0)))
        (eqb_tells (s + 1) (length lengths))

    some_behind : is_last ≡ false → 0 < length (drop (s + 1) lengths)
    some_behind is_false =
        ⊎_elim (λ (is : (eqb (s + 1) (length lengths) ≡ true) × (s + 1 ≡ length lengths)). absurd (true≢false (sym is.0 ∙ sym last ∙ is_false)))
        (λ (is : (eqb (s + 1) (length lengths) ≡ false) × (s + 1 ≢ length lengths)). omega (arith, length-drop (s + 1) lengths, lt, is.1))
        (eqb_tells (s + 1) (length lengths))

    -- the sum of a segment, and those of the segments behind it
    pub sum-at : last_sums (drop s lengths) rest ≡ sum_here is_last segment ∷ last_sums (drop (s + 1) lengths) others
    sum-at =
        let k = get_or lengths s 0 in
        let here : take k rest ≡ segment = sym (is_segment ∙ ap (λ j. take j rest) is_n ∙ take_min k rest) in
        let rest_is : drop k rest ≡ others = sym (is_others ∙ ap (λ j. drop j rest) is_n ∙ drop_min k rest) in
        ap (λ ns. last_sums ns rest) (drop_more lengths s 0 lt)
        ∙ first-sum k (drop (s + 1) lengths) rest is_last none_behind some_behind
        ∙ (λ i. sum_here is_last (here i) ∷ last_sums (drop (s + 1) lengths) (rest_is i))

    -- a look stops at the first sum that does not fit, and goes on past the others
    pub stops_at : (whole : ℕ) → whole ≡ s + fitting_front (last_sums (drop s lengths) rest) → is_some (fitting (sum_here is_last segment)) ≡ false → s ≡ whole
    stops_at whole is none =
        let nothing : fitting_front (sum_here is_last segment ∷ last_sums (drop (s + 1) lengths) others) ≡ 0 =
        ap (λ b. cond b (1 + fitting_front (last_sums (drop (s + 1) lengths) others)) 0) (not_number (sum_here is_last segment) (is_number (sum_here is_last segment)) none) in
        omega (arith, is, ap fitting_front sum-at, nothing)

    pub goes_past : (whole : ℕ) → whole ≡ s + fitting_front (last_sums (drop s lengths) rest) → is_some (fitting (sum_here is_last segment)) ≡ true
        → whole ≡ (s + 1) + fitting_front (last_sums (drop (s + 1) lengths) others)
    goes_past whole is some =
        let one : fitting_front (sum_here is_last segment ∷ last_sums (drop (s + 1) lengths) others) ≡ 1 + fitting_front (last_sums (drop (s + 1) lengths) others) =
        ap (λ b. cond b (1 + fitting_front (last_sums (drop (s + 1) lengths) others)) 0) (some-fits (sum_here is_last segment) (sum_here is_last segment) refl some) in
        omega (arith, is, ap fitting_front sum-at, one)

    -- a walk over sums that all fit writes them
    module _ (sums : List ℤ) (left : last_sums (drop s lengths) rest ≡ drop s sums) (long : length sums ≡ length lengths) (fit : length sums ≤ fitting_front sums) where
      this-sum : drop s sums ≡ get_or sums s (pos 0) ∷ drop (s + 1) sums
      this-sum = drop_more sums s (pos 0) (omega (arith, lt, long))

      pub left_more : last_sums (drop (s + 1) lengths) others ≡ drop (s + 1) sums
      left_more = let listed : sum_here is_last segment ∷ last_sums (drop (s + 1) lengths) others ≡ get_or sums s (pos 0) ∷ drop (s + 1) sums = sym sum-at ∙ left ∙ this-sum in cc

      is_this : sum_here is_last segment ≡ get_or sums s (pos 0)
      is_this = let listed : sum_here is_last segment ∷ last_sums (drop (s + 1) lengths) others ≡ get_or sums s (pos 0) ∷ drop (s + 1) sums = sym sum-at ∙ left ∙ this-sum in cc

      pub written_more : (out : List ℤ) (y : ℤ) → y ≡ unwrap_or (fitting (sum_here is_last segment)) (pos 0) → s < length out → take s out ≡ take s sums
          → take (s + 1) (set out s y) ≡ take (s + 1) sums
      written_more out y is in_out so_far =
          let number : is_number (sum_here is_last segment) ≡ true =
          ap is_number is_this ∙ prefix_len_passes is_number sums s (pos 0) (omega (arith, lt, long, fit)) in
          let value : y ≡ get_or sums s (pos 0) = is ∙ ap (λ b. unwrap_or (if b then Some (sum_here is_last segment) else None) (pos 0)) number ∙ is_this in
          take_more_set out s y in_out ∙ (λ i. so_far i ++ value i ∷ []) ∙ sym (take_more sums s (pos 0) (omega (arith, lt, long)))

  -- the checked sums of a part with so many elements
  module _ (head : ℕ) (lengths : List ℕ) (xs others : List ℤ) (part : is_part head lengths (length xs) ≡ true) (is_others : others ≡ drop head xs) (n : ℕ)
      (is : n ≡ fitting_front (last_sums lengths others)) where
    as_sums : checked_part_reduces_of behind head lengths xs ≡ all_fitting (last_sums lengths others)
    as_sums = ap (λ r. r >>= all_fitting) (part-fits ◌+ℤ◌ (pos 0) behind head lengths xs part) ∙ ap (λ ys. all_fitting (last_sums lengths ys)) (sym is_others)

    pub sums-overflow : n < length lengths → checked_part_reduces_of behind head lengths xs ≡ Err (fault_at Overflow n)
    sums-overflow lt =
        as_sums ∙ overflows 0 (last_sums lengths others) (omega (arith, is, lt, length-last_sums lengths others)) ∙ ap (λ p. Err (fault_at Overflow p)) (omega (arith, is))

    pub sums-fit : length lengths ≤ n → checked_part_reduces_of behind head lengths xs ≡ Ok (last_sums lengths others)
    sums-fit ge = as_sums ∙ all_fit 0 (last_sums lengths others) (omega (arith, is, ge, length-last_sums lengths others))
