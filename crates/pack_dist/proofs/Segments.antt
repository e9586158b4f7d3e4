-- Counts and packs of segments, one segment after another.
use Rattle.pack_dist.proofs.Cited.{◌≡◌, ◌≢◌, ℕ, ◌+◌, ◌≤◌, ℤ, pos, Bool, List, [], ◌∷◌, length, take, drop, map, zip, refl, subst, sym, ap, ◌∙◌, arith, inl, inr, Result, Ok, Err, IfOk, sum}
use Rattle.pack_dist.proofs.Cited.{unsigned_abs, drop-map, length-drop, length-map, length-take, nil_from_length, take-map, count_by-le-length, Fault, integer_of, fault, fold_of, after, Gives}
use Rattle.pack_dist.proofs.Cited.{sum_of, most_elements, count_of, pack_of, beside, end_to_end, in_vector, of_two, one_each, seg_count_of, seg_pack_of, seg_reduce_of, sum-cons, beside-fits}
use Rattle.pack_dist.proofs.Cited.{results-ok, reduces_of}
use Rattle.std.proofs.lemmas.Bool.Decides.{eqb_tells}
use Rattle.cvl_base.specs.declared.fault.FaultNo.TheVariants as no
use Rattle.cvl_base.specs.declared.refused.Refused.{Refused}
use Rattle.cvl_base.specs.declared.refused.Refused.TheVariants as refused
use Rattle.cvl_base.specs.Descriptors.{AreLengths}
use Rattle.cvl_base.specs.Nests.{cut_of, nest}
use Rattle.cvl_base.proofs.Descriptors.{abs_pos}
use Rattle.cvl_base.proofs.Elementwise.{if_as_long-fits}
use Rattle.cvl_base.proofs.Nests.{length-cut, nest-fits, nest-misfits}
use Rattle.scan_walks.proofs.Segmented.{seg_reduce-fits, seg_reduce-misfits}
use Rattle.pack_dist.specs.Kept.{kept_of}
use Rattle.pack_dist.proofs.Ones.{ones_counted}
use Rattle.pack_dist.proofs.Packing.{kept-split}
use Rattle.scan_walks.proofs.Walk.{given, given-more, itself}

-- ---- counts

seg_count-fits : (flags : List Bool) (lengths : List ℕ) → sum lengths ≡ length flags → seg_count_of flags lengths ≡ Ok (map count_of (cut_of lengths flags))
seg_count-fits flags lengths fits =
    ap (one_each (in_vector lengths) (λ fs. Ok (count_of fs))) (nest-fits lengths flags fits) ∙ results-ok (in_vector lengths) count_of 0 (cut_of lengths flags)

seg_count-misfits : (flags : List Bool) (lengths : List ℕ) → sum lengths ≢ length flags → seg_count_of flags lengths ≡ Err (fault no.LengthMismatch)
seg_count-misfits flags lengths misfits = ap (one_each (in_vector lengths) (λ fs. Ok (count_of fs))) (nest-misfits lengths flags misfits)

ones_by_segment : (lengths : List ℕ) (flags : List Bool) → length flags ≤ most_elements → reduces_of sum_of (pos 0) lengths (map integer_of flags) ≡ map pos (map count_of (cut_of lengths flags))
ones_by_segment [] flags few = refl
ones_by_segment (n ∷ lengths) flags few =
    let others = reduces_of sum_of (pos 0) lengths (drop n (map integer_of flags)) in
    ap (λ z. z ∷ others) (ap (fold_of sum_of (pos 0)) (take-map integer_of n flags) ∙ ones_counted (take n flags) (omega (arith, few, length-take n flags)))
    ∙ ap (λ zs. pos (count_of (take n flags)) ∷ zs)
    (ap (reduces_of sum_of (pos 0) lengths) (drop-map integer_of n flags) ∙ ones_by_segment lengths (drop n flags) (omega (arith, few, length-drop n flags)))

ones-misfit : (flags : List Bool) (lengths : List ℕ) → sum lengths ≢ length flags → seg_reduce_of sum_of (pos 0) (map integer_of flags) lengths ≡ Err (fault no.LengthMismatch)
ones-misfit flags lengths misfits =
    seg_reduce-misfits sum_of (pos 0) (map integer_of flags) lengths (fault no.LengthMismatch)
    (nest-misfits lengths (map integer_of flags) (λ fits. misfits (fits ∙ length-map flags integer_of)))

sum-counts : (lengths : List ℕ) (flags : List Bool) → sum (map count_of (cut_of lengths flags)) ≤ length flags
sum-counts [] flags = omega arith
sum-counts (n ∷ lengths) flags =
    let front = count_by-le-length (λ (flag : Bool). flag) (take n flags) in
    let all = sum-cons (count_of (take n flags)) (map count_of (cut_of lengths (drop n flags))) in
    omega (arith, all, front, sum-counts lengths (drop n flags), length-take n flags, length-drop n flags)

-- the counts are the lengths of a descriptor
are_counts : (counts : List ℕ) → length counts ≤ most_elements → sum counts ≤ most_elements → AreLengths (map pos counts)
are_counts counts few small = record {
  none_negative = ap (map pos) (sym (abs_pos counts));
  few = omega (arith, few, length-map counts pos);
  in_limit = omega (arith, small, ap sum (abs_pos counts));
}

module _ {V : Type 0} (view : V → List ℤ) (flags : List Bool) (lengths : List ℕ) (few : length lengths ≤ most_elements) (small : sum lengths ≤ most_elements) where
  abbrev counts : List ℕ
  counts = map count_of (cut_of lengths flags)

  -- the count of each segment is given, and can be made a descriptor
  abbrev IsCount : Result V Refused → Type 0
  IsCount r = Gives (λ v. map unsigned_abs (view v)) r (seg_count_of flags lengths) × IfOk r (λ v. AreLengths (view v))

  fits : (r : Result V Refused) → sum lengths ≡ length flags → Gives view r (Ok (map pos counts)) → IsCount r
  fits (Ok v) same given =
      let is : map pos counts ≡ view v = cc given in (
        seg_count-fits flags lengths same ∙ ap Ok (sym (abs_pos counts) ∙ ap (map unsigned_abs) is),
        subst AreLengths is
            (are_counts counts (omega (arith, few, length-map (cut_of lengths flags) count_of, length-cut lengths flags)) (omega (arith, small, same, sum-counts lengths flags))),
      )
  fits (Err (refused.Fault f)) same given = absurd (cc given)
  fits (Err refused.NoResources) same given = (tt, tt)

  misfits : (r : Result V Refused) → sum lengths ≢ length flags → Gives view r (Err (fault no.LengthMismatch)) → IsCount r
  misfits (Ok v) unlike given = absurd (cc given)
  misfits (Err (refused.Fault f)) unlike given = let is : fault no.LengthMismatch ≡ f = cc given in (seg_count-misfits flags lengths unlike ∙ ap Err is, tt)
  misfits (Err refused.NoResources) unlike given = (tt, tt)

  -- a reduce of the flags, read as 1 and 0, is the count of each segment
  pub reduced : (r : Result V Refused) → Gives view r (seg_reduce_of sum_of (pos 0) (map integer_of flags) lengths) → IsCount r
  reduced r given =
      elim (eqb_tells (sum lengths) (length flags)) [
        | inl t ↦
            fits r t.1 (subst (Gives view r) (seg_reduce-fits sum_of (pos 0) (map integer_of flags) lengths (t.1 ∙ sym (length-map flags integer_of))
            ∙ ap Ok (ones_by_segment lengths flags (omega (arith, t.1, small)))) given)
        | inr t ↦ misfits r t.1 (subst (Gives view r) (ones-misfit flags lengths t.1) given)
      ]

-- ---- packs

module _ {X : Type 0} where
  -- the packs of the segments, one after another, are the pack of the whole
  packed : (place : ℕ → ℕ → ℕ) (s : ℕ) (lengths : List ℕ) (xs : List X) (flags : List Bool) → length xs ≡ length flags → sum lengths ≡ length xs
      → given itself place (of_two pack_of) s (zip (cut_of lengths xs) (cut_of lengths flags)) ≡ Ok (kept_of xs flags)
  packed place s [] xs flags long fits = ap Ok (ap (λ ys. kept_of ys flags) (sym (nil_from_length xs (sym fits))))
  packed place s (n ∷ lengths) xs flags long fits =
      let first = kept_of (take n xs) (take n flags) in
      given-more itself place (of_two pack_of) s (take n xs, take n flags) (zip (cut_of lengths (drop n xs)) (cut_of lengths (drop n flags))) first
      (if_as_long-fits (take n xs) (take n flags) (Ok first) (omega (arith, long, length-take n xs, length-take n flags)))
      ∙ ap (after first)
      (packed place (s + 1) lengths (drop n xs) (drop n flags)
      (omega (arith, long, length-drop n xs, length-drop n flags)) (omega (arith, fits, sum-cons n lengths, length-drop n xs)))
      ∙ ap Ok (sym (kept-split xs flags n))

  pub seg_pack-fits : (xs : List X) (flags : List Bool) (lengths : List ℕ) → sum lengths ≡ length xs → sum lengths ≡ length flags → seg_pack_of xs flags lengths ≡ Ok (kept_of xs flags)
  seg_pack-fits xs flags lengths fits fits_flags =
      let long : length xs ≡ length flags = sym fits ∙ fits_flags in
      let call = end_to_end (in_vector lengths) (of_two pack_of) in
      ap (λ lists. call (beside lists (nest lengths flags))) (nest-fits lengths xs fits)
      ∙ ap (λ lists. call (beside (Ok (cut_of lengths xs)) lists)) (nest-fits lengths flags fits_flags)
      ∙ ap call (beside-fits (cut_of lengths xs) (cut_of lengths flags) (length-cut lengths xs ∙ sym (length-cut lengths flags)))
      ∙ packed (in_vector lengths) 0 lengths xs flags long fits

  pack_without_counts : (xs : List X) (flags : List Bool) (lengths : List ℕ) → sum lengths ≢ length flags → seg_pack_of xs flags lengths ≡ Err (fault no.LengthMismatch)
  pack_without_counts xs flags lengths misfits =
      let call = end_to_end (in_vector lengths) (of_two pack_of) in
      ap (λ lists. call (beside (nest lengths xs) lists)) (nest-misfits lengths flags misfits)
      ∙ elim (eqb_tells (sum lengths) (length xs)) [
        | inl t ↦ ap (λ lists. call (beside lists (Err (fault no.LengthMismatch)))) (nest-fits lengths xs t.1)
        | inr t ↦ ap (λ lists. call (beside lists (Err (fault no.LengthMismatch)))) (nest-misfits lengths xs t.1)
      ]

  -- flags that can't be counted by segments can't be packed by
  pub pack_fault : (xs : List X) (flags : List Bool) (lengths : List ℕ) (f : Fault) → seg_count_of flags lengths ≡ Err f → seg_pack_of xs flags lengths ≡ Err f
  pack_fault xs flags lengths f counted =
      elim (eqb_tells (sum lengths) (length flags)) [
        | inl t ↦ let both : ◌≡◌ {A = Result (List ℕ) Fault} (Ok (map count_of (cut_of lengths flags))) (Err f) = sym (seg_count-fits flags lengths t.1) ∙ counted in cc both
        | inr t ↦
            let both : ◌≡◌ {A = Result (List ℕ) Fault} (Err (fault no.LengthMismatch)) (Err f) = sym (seg_count-misfits flags lengths t.1) ∙ counted in
            let same : fault no.LengthMismatch ≡ f = cc both in
            pack_without_counts xs flags lengths t.1 ∙ ap Err same
      ]
