-- The sums in a part: how many of them fit 32 bits, from the first one on, and the checked scan of which that is known.
use Rattle.std.proofs.Common.{◌≡◌, append_assoc, ◌+◌, ◌+ℤ◌, ◌<◌, ◌≤◌, ◌∙◌, ℕ, ℤ, pos, Bool, true, false, not, List, ◌++◌, length, take, drop, Result, Ok, Err, Some, None}
use Rattle.std.proofs.Common.{refl, sym, ap, arith, subst, sum, drop-drop, length-append, length-drop, ⊎_elim, unwrap_or}
use Rattle.std.proofs.lemmas.Bool.{cases_lt}
use Rattle.std.proofs.lemmas.List.{length-take-le}
use Rattle.std.proofs.lemmas.List.Sums.{prefix_len-le-length}
use Rattle.std.proofs.lemmas.Option.{none-some, same_Some}
use Rattle.std.specs.Result.{result_ok}
use Rattle.cvl_base.specs.CheckedSums.{checked_seg_scan_of, fitting}
use Rattle.cvl_base.specs.declared.fault.Fault.{Fault}
use Rattle.cvl_base.specs.declared.fault.FaultNo.TheVariants as no
use Rattle.cvl_base.specs.Faults.{fault, fault_at}
use Rattle.cvl_base.specs.Folds.{scan_of}
use Rattle.cvl_base.specs.Gives.{◌>>=◌, fault_if}
use Rattle.cvl_base.specs.Integers.{sum_of}
use Rattle.cvl_base.specs.ItemWords.{is_number}
use Rattle.cvl_base.specs.Rooms.{in_room}
use Rattle.operators.proofs.FoldLaws.{length-scan_of}
use Rattle.part_calls.proofs.Carried.{after_fits}
use Rattle.part_calls.specs.Sums.{all_fitting}
use Rattle.range_walks.proofs.Segments.{length-scans_of}
use Rattle.range_walks.specs.Ranges.{scans_of}
use Rattle.scan_walks.proofs.Fitted.{all_fit, overflows, scan_fits, scans_fit, scans_overflow}
use Rattle.scan_walks.proofs.FrontLaws.{front_past, front_within}
use Rattle.scan_walks.proofs.Valued.{scans_valued}
use Rattle.scan_walks.specs.Fronts.{fitting_front}
use Rattle.segment_parts.proofs.Scanned.{front-scans, length-scans_in_part, part-fits}
use Rattle.segment_parts.specs.CheckedSums.{checked_part_scan_of}
use Rattle.segment_parts.specs.Parts.{scans_in_part}

-- ---- a look at whole segments, whose room is empty

-- a fault of the room has no place
without_place : (b : Bool) (ys : List ℤ) (f : Fault) (place : ℕ) → fault_if (not b) (fault no.LengthMismatch) (Ok ys) ≡ Err f → f.place ≡ Some place → ⊥
without_place true ys f place is at = cc
without_place false ys f place is at = cc

module _ (lengths : List ℕ) (xs : List ℤ) (total : sum lengths ≡ length xs) where
  abbrev front : ℕ
  front = fitting_front (scans_of ◌+ℤ◌ (pos 0) lengths xs)

  pub front-within : front ≤ length xs
  front-within = omega (arith, prefix_len-le-length is_number (scans_of ◌+ℤ◌ (pos 0) lengths xs), length-scans_of ◌+ℤ◌ (pos 0) lengths xs (omega (arith, total)))

  overflowed : front < length xs → in_room 0 (checked_seg_scan_of xs lengths) ≡ Err (fault_at no.Overflow front)
  overflowed lt = ap (in_room 0) (scans_overflow front lengths xs total refl lt)

  pub looked_past : (now : List ℤ) → in_room 0 (checked_seg_scan_of xs lengths) ≡ Ok now → length xs ≡ front
  looked_past now is =
      ⊎_elim (λ (lt : front < length xs). absurd (none-some now (ap result_ok (sym (overflowed lt) ∙ is))))
      (λ (ge : length xs ≤ front). omega (arith, ge, front-within)) (cases_lt front (length xs))

  pub looked_at_none : (f : Fault) → in_room 0 (checked_seg_scan_of xs lengths) ≡ Err f → f.place ≡ None → length xs ≡ front
  looked_at_none f is none =
      ⊎_elim (λ (lt : front < length xs). absurd (differ f (sym (overflowed lt) ∙ is) none))
      (λ (ge : length xs ≤ front). omega (arith, ge, front-within)) (cases_lt front (length xs))
    where
      differ : (g : Fault) → ◌≡◌ {A = Result (List ℤ) Fault} (Err (fault_at no.Overflow front)) (Err g) → g.place ≡ None → ⊥
      differ g same is_none = cc

  pub looked_at : (f : Fault) (place : ℕ) → in_room 0 (checked_seg_scan_of xs lengths) ≡ Err f → f.place ≡ Some place → place ≡ front
  looked_at f place is at =
      ⊎_elim (λ (lt : front < length xs). found f (sym (overflowed lt) ∙ is) at)
      (λ (ge : length xs ≤ front). absurd (without_place _ _ f place (sym (ap (in_room 0) (scans_fit front lengths xs total refl ge)) ∙ is) at))
      (cases_lt front (length xs))
    where
      found : (g : Fault) → ◌≡◌ {A = Result (List ℤ) Fault} (Err (fault_at no.Overflow front)) (Err g) → g.place ≡ Some place → place ≡ front
      found g same is_at = cc

-- ---- a part: its head, its whole segments and its tail

-- where all fit, those of the first list and those of the second do
each_fits : (zs ys : List ℤ) → length (zs ++ ys) ≤ fitting_front (zs ++ ys) → (length zs ≤ fitting_front zs) × (length ys ≤ fitting_front ys)
each_fits zs ys all =
    ⊎_elim
    (λ (lt : fitting_front zs < length zs). absurd (omega (arith, all, front_within zs ys lt, length-append zs ys, lt)))
    (λ (ge : length zs ≤ fitting_front zs). (ge, omega (arith, all, front_past zs ys ge, length-append zs ys)))
    (cases_lt (fitting_front zs) (length zs))

module _ (before : ℤ) (head : ℕ) (lengths : List ℕ) (xs : List ℤ) (enough : head + sum lengths ≤ length xs) where
  abbrev sums : List ℤ
  sums = scans_in_part ◌+ℤ◌ (pos 0) before head lengths xs

  -- a sum that does not fit
  pub part-overflows : (n : ℕ) → n ≡ fitting_front sums → n < length xs → checked_part_scan_of before head lengths xs ≡ Err (fault_at no.Overflow n)
  part-overflows n is lt =
      ap (λ r. r >>= all_fitting) (part-fits ◌+ℤ◌ (pos 0) before head lengths xs enough)
      ∙ overflows 0 sums (omega (arith, is, lt, length-scans_in_part ◌+ℤ◌ (pos 0) before head lengths xs enough))
      ∙ ap (λ p. Err (fault_at no.Overflow p)) (omega (arith, is))

  module _ (n : ℕ) (total : n ≡ sum lengths) (first whole last : List ℤ) (is_first : first ≡ take head xs) (is_whole : whole ≡ take n (drop head xs))
      (is_last : last ≡ drop n (drop head xs)) where
    parted : sums ≡ scan_of ◌+ℤ◌ before first ++ (scans_of ◌+ℤ◌ (pos 0) lengths whole ++ scan_of ◌+ℤ◌ (pos 0) last)
    parted =
        let from : drop n (drop head xs) ≡ drop (head + sum lengths) xs = drop-drop n head xs ∙ ap (λ k. drop k xs) (omega (arith, total)) in
        let middle : scans_of ◌+ℤ◌ (pos 0) lengths (drop head xs) ≡ scans_of ◌+ℤ◌ (pos 0) lengths whole =
        sym (front-scans ◌+ℤ◌ (pos 0) before head lengths xs) ∙ ap (scans_of ◌+ℤ◌ (pos 0) lengths) (ap (λ k. take k (drop head xs)) (sym total) ∙ sym is_whole) in
        sym (λ i. (scan_of ◌+ℤ◌ before (is_first i) ++ sym middle i) ++ scan_of ◌+ℤ◌ (pos 0) ((is_last ∙ from) i))
        ∙ append_assoc (scan_of ◌+ℤ◌ before first) (scans_of ◌+ℤ◌ (pos 0) lengths whole) (scan_of ◌+ℤ◌ (pos 0) last)

    long_whole : length whole ≡ sum lengths
    long_whole = ap length is_whole ∙ length-take-le n (drop head xs) (omega (arith, enough, total, length-drop head xs)) ∙ total

    long_sums : length (scans_of ◌+ℤ◌ (pos 0) lengths whole) ≡ length whole
    long_sums = length-scans_of ◌+ℤ◌ (pos 0) lengths whole (omega (arith, long_whole))

    pub stops_in_head : (k : ℕ) → k ≡ fitting_front (scan_of ◌+ℤ◌ before first) → k < length first → k ≡ fitting_front sums
    stops_in_head k is lt =
        is ∙ sym (ap fitting_front parted
        ∙ front_within (scan_of ◌+ℤ◌ before first) (scans_of ◌+ℤ◌ (pos 0) lengths whole ++ scan_of ◌+ℤ◌ (pos 0) last) (omega (arith, is, lt, length-scan_of ◌+ℤ◌ before first)))

    module _ (k : ℕ) (is : k ≡ fitting_front (scan_of ◌+ℤ◌ before first)) (ge : length first ≤ k) where
      past_head : fitting_front sums ≡ length first + fitting_front (scans_of ◌+ℤ◌ (pos 0) lengths whole ++ scan_of ◌+ℤ◌ (pos 0) last)
      past_head =
          let past = front_past (scan_of ◌+ℤ◌ before first) (scans_of ◌+ℤ◌ (pos 0) lengths whole ++ scan_of ◌+ℤ◌ (pos 0) last) (omega (arith, is, ge, length-scan_of ◌+ℤ◌ before first)) in
          ap fitting_front parted ∙ omega (arith, past, length-scan_of ◌+ℤ◌ before first)

      pub stops_in_whole : (j : ℕ) → j ≡ fitting_front (scans_of ◌+ℤ◌ (pos 0) lengths whole) → j < length whole → length first + j ≡ fitting_front sums
      stops_in_whole j is_j lt =
          omega (arith, past_head, is_j, front_within (scans_of ◌+ℤ◌ (pos 0) lengths whole) (scan_of ◌+ℤ◌ (pos 0) last) (omega (arith, is_j, lt, long_sums)))

      pub goes_to_end : (j m : ℕ) → j ≡ fitting_front (scans_of ◌+ℤ◌ (pos 0) lengths whole) → length whole ≤ j → m ≡ fitting_front (scan_of ◌+ℤ◌ (pos 0) last)
          → (length first + length whole) + m ≡ fitting_front sums
      goes_to_end j m is_j ge_j is_m =
          omega (arith, past_head, is_m, long_sums, front_past (scans_of ◌+ℤ◌ (pos 0) lengths whole) (scan_of ◌+ℤ◌ (pos 0) last) (omega (arith, is_j, ge_j, long_sums)))

  -- where all sums fit, those that wrap are the same
  pub part-wraps : (n : ℕ) → n ≡ fitting_front sums → length xs ≤ n
      → checked_part_scan_of before head lengths xs ≡ Ok (scans_in_part sum_of (pos 0) (unwrap_or (fitting before) (pos 0)) head lengths xs)
  part-wraps n is ge =
      let Sums = List ℤ in
      let start = unwrap_or (fitting before) (pos 0) in
      let first = take head xs in let whole = take (sum lengths) (drop head xs) in let last = drop (head + sum lengths) xs in
      let heads : Sums = scan_of ◌+ℤ◌ before first in let middle : Sums = scans_of ◌+ℤ◌ (pos 0) lengths (drop head xs) in let tails : Sums = scan_of ◌+ℤ◌ (pos 0) last in
      let long = length-scans_in_part ◌+ℤ◌ (pos 0) before head lengths xs enough in
      let fit_rest = each_fits (heads ++ middle) tails (omega (arith, is, ge, long)) in
      let fit_head = each_fits heads middle fit_rest.0 in
      let cut = front-scans ◌+ℤ◌ (pos 0) before head lengths xs in
      let total : sum lengths ≡ length whole = sym (length-take-le (sum lengths) (drop head xs) (omega (arith, enough, length-drop head xs))) in
      let one : heads ≡ scan_of sum_of start first =
      same_Some heads _ (ap result_ok (sym (all_fit 0 heads fit_head.0)
      ∙ after_fits (fitting_front heads) before first refl (omega (arith, fit_head.0, length-scan_of ◌+ℤ◌ before first)))) in
      let fit_whole : length (scans_of ◌+ℤ◌ (pos 0) lengths whole) ≤ fitting_front (scans_of ◌+ℤ◌ (pos 0) lengths whole) =
      subst (λ (zs : Sums). length zs ≤ fitting_front zs) (sym cut) fit_head.1 in
      let two : scans_of ◌+ℤ◌ (pos 0) lengths whole ≡ scans_of sum_of (pos 0) lengths whole =
      same_Some _ _ (ap result_ok (sym (all_fit 0 (scans_of ◌+ℤ◌ (pos 0) lengths whole) fit_whole) ∙ sym (scans_valued lengths whole total)
      ∙ scans_fit (fitting_front (scans_of ◌+ℤ◌ (pos 0) lengths whole)) lengths whole total refl
      (omega (arith, fit_whole, length-scans_of ◌+ℤ◌ (pos 0) lengths whole (omega (arith, total)))))) in
      let three : tails ≡ scan_of sum_of (pos 0) last =
      same_Some tails _ (ap result_ok (sym (all_fit 0 tails fit_rest.1)
      ∙ scan_fits (fitting_front tails) last refl (omega (arith, fit_rest.1, length-scan_of ◌+ℤ◌ (pos 0) last)))) in
      let middles : middle ≡ scans_of sum_of (pos 0) lengths (drop head xs) = sym cut ∙ two ∙ front-scans sum_of (pos 0) start head lengths xs in
      ap (λ r. r >>= all_fitting) (part-fits ◌+ℤ◌ (pos 0) before head lengths xs enough)
      ∙ all_fit 0 sums (omega (arith, is, ge, long))
      ∙ ap Ok (λ i. (one i ++ middles i) ++ three i)
