-- The runs that begin in a part, by its elements: what is left of its head, and the segments that start in it.
use Rattle.std.proofs.Common.{◌≡◌, ◌∙◌, ℕ, ◌+◌, ◌-◌, ◌≤◌, ◌++◌, Bool, true, not, ◌||◌, List, [], ◌∷◌, length, map, take, drop, sum, leb, ℤ, pos, Ok, refl, sym, ap}
use Rattle.std.proofs.Common.{arith, append_assoc, length-append}
use Rattle.std.proofs.lemmas.Bool.{and_parts, le-ltb, leb-true}
use Rattle.std.proofs.lemmas.List.{drop-drop, length-drop, map-append, take-append-drop}
use Rattle.cvl_base.proofs.Lists.{sum-cons}
use Rattle.cvl_base.specs.declared.fault.FaultNo.TheVariants as no
use Rattle.cvl_base.specs.Faults.{fault}
use Rattle.cvl_base.specs.Gives.{fault_if}
use Rattle.cvl_base.specs.Lists.{joined}
use Rattle.cvl_base.specs.Nests.{cut_of}
use Rattle.run_lengths.specs.Runs.{runs_in, runs_of}
use Rattle.run_lengths.proofs.Counted.{joined_runs, most_runs}
use Rattle.run_lengths.proofs.InSegments.{most_in}
use Rattle.segment_parts.specs.Reduces.{but_last, is_part}
use Rattle.run_parts.specs.Runs.{in_front_of, lengths_of_runs, part_runs_of, range_of, runs_behind, runs_in_part}
use Rattle.run_parts.proofs.Ranges.{by-ends, first-range, length-range}
use Rattle.run_parts.proofs.Written.{length-lengths}

pub bounds : (head : ℕ) (lengths : List ℕ) (n : ℕ) → is_part head lengths n ≡ true → (head + sum (but_last lengths) ≤ n) × (n ≤ head + sum lengths)
bounds head lengths n is =
    let both = and_parts (leb (head + sum (but_last lengths)) n) (leb n (head + sum lengths)) is in
    (leb-true (head + sum (but_last lengths)) n both.0, leb-true n (head + sum lengths) both.1)

module _ {X : Type 0} where
  -- lengths that are enough cut a list into lists that are it again
  pub joined-cut-all : (lengths : List ℕ) (xs : List X) → length xs ≤ sum lengths → joined (cut_of lengths xs) ≡ xs
  joined-cut-all [] [] few = refl
  joined-cut-all [] (x ∷ xs) few = absurd (omega (arith, few))
  joined-cut-all (n ∷ lengths) xs few =
      ap (λ ys. take n xs ++ ys) (joined-cut-all lengths (drop n xs) (omega (arith, few, sum-cons n lengths, length-drop n xs))) ∙ take-append-drop n xs

  joined-both : (lists more : List (List X)) → joined (lists ++ more) ≡ joined lists ++ joined more
  joined-both [] more = refl
  joined-both (xs ∷ lists) more = ap (λ ys. xs ++ ys) (joined-both lists more) ∙ sym (append_assoc xs (joined lists) (joined more))

module _ {X : Type 0} (differ : X → X → Bool) where
  joined-runs_in : (segments : List (List X)) → joined (runs_in differ segments) ≡ joined segments
  joined-runs_in [] = refl
  joined-runs_in (segment ∷ segments) =
      joined-both (runs_of differ segment) (runs_in differ segments) ∙ (λ i. joined_runs differ segment i ++ joined-runs_in segments i)

  module _ (from n head m : ℕ) (lengths : List ℕ) (xs : List X) (there : from + n ≤ length xs) (is : is_part head lengths n ≡ true) (some : m ≤ head)
      (begin : runs_behind differ (in_front_of from xs) (range_of from head xs) ≡ runs_of differ (drop m (range_of from head xs))) where
    abbrev pub left_of_head : List X
    left_of_head = range_of (from + m) (from + head - (from + m)) xs

    abbrev pub behind_head : List X
    behind_head = range_of (from + head) (from + n - (from + head)) xs

    abbrev pub part_runs : List (List X)
    part_runs = runs_in_part differ (in_front_of from xs) head lengths (range_of from n xs)

    pub head_fits : head ≤ n
    head_fits = omega (arith, (bounds head lengths n is).0)

    pub runs-are : part_runs ≡ runs_of differ left_of_head ++ runs_in differ (cut_of lengths behind_head)
    runs-are =
        let front : take head (range_of from n xs) ≡ range_of from head xs = first-range from n head xs head_fits there in
        let first : runs_behind differ (in_front_of from xs) (take head (range_of from n xs)) ≡ runs_of differ left_of_head =
        ap (runs_behind differ (in_front_of from xs)) front ∙ begin ∙ ap (runs_of differ) (sym (by-ends from head m xs some)) in
        (λ i. first i ++ runs_in differ (cut_of lengths (sym (by-ends from n head xs head_fits) i)))

    pub long_left : length left_of_head ≡ head - m
    long_left = length-range (from + m) (from + head - (from + m)) xs (omega (arith, head_fits, some, there)) ∙ omega (arith, some)

    pub long_behind : length behind_head ≡ n - head
    long_behind = length-range (from + head) (from + n - (from + head)) xs (omega (arith, head_fits, there)) ∙ omega (arith, head_fits)

    pub begin-is : from + m ≡ from + n - length (joined part_runs)
    begin-is =
        let all : joined part_runs ≡ left_of_head ++ behind_head =
        ap joined runs-are ∙ joined-both (runs_of differ left_of_head) (runs_in differ (cut_of lengths behind_head))
        ∙ (λ i. joined_runs differ left_of_head i ++ (joined-runs_in (cut_of lengths behind_head)
        ∙ joined-cut-all lengths behind_head (omega (arith, long_behind, (bounds head lengths n is).1))) i) in
        omega (arith, ap length all, length-append left_of_head behind_head, long_left, long_behind, head_fits, some)

    pub fits-call : part_runs_of differ from n head lengths xs ≡ Ok part_runs
    fits-call =
        ap (λ b. fault_if (b || not (is_part head lengths n)) (fault no.LengthMismatch) (Ok part_runs)) (le-ltb (length xs) (from + n) there)
        ∙ ap (λ b. fault_if (not b) (fault no.LengthMismatch) (Ok part_runs)) is

    pub mid-is : (mid : ℕ) → mid ≡ 0 + length (runs_of differ left_of_head) → mid ≡ length (runs_of differ left_of_head)
    mid-is mid is = omega (arith, is)

    -- what stands at the front once both are written, and that the rest stays as it is
    module _ (own one two : List ℤ) (mid end : ℕ) (mid_is : mid ≡ length (runs_of differ left_of_head))
        (written : take mid one ≡ lengths_of_runs (runs_of differ left_of_head)) (kept : drop mid one ≡ drop mid own)
        (end_is : end ≡ mid + length (runs_in differ (cut_of lengths behind_head)))
        (also_written : take end two ≡ take mid one ++ lengths_of_runs (runs_in differ (cut_of lengths behind_head))) (also_kept : drop end two ≡ drop end one) where
      pub front : take end two ≡ lengths_of_runs part_runs
      front =
          also_written ∙ ap (λ zs. zs ++ lengths_of_runs (runs_in differ (cut_of lengths behind_head))) written
          ∙ sym (map-append (λ run. pos (length run)) (runs_of differ left_of_head) (runs_in differ (cut_of lengths behind_head)))
          ∙ ap lengths_of_runs (sym runs-are)

      pub rest : drop end two ≡ drop end own
      rest =
          let k = length (runs_in differ (cut_of lengths behind_head)) in
          also_kept ∙ ap (λ j. drop j one) end_is ∙ sym (drop-drop k mid one) ∙ ap (drop k) kept ∙ drop-drop k mid own ∙ ap (λ j. drop j own) (sym end_is)

      pub within : end ≤ n
      within =
          omega (arith, mid_is, end_is, most_runs differ left_of_head, most_in differ lengths behind_head, long_left, long_behind, head_fits, some)

      pub many : end ≡ length (lengths_of_runs part_runs)
      many =
          omega (
            arith,
            mid_is,
            end_is,
            ap length runs-are,
            length-append (runs_of differ left_of_head) (runs_in differ (cut_of lengths behind_head)),
            length-lengths part_runs,
          )
