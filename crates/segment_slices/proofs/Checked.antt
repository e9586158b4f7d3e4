-- The walk that looks whether slices are within their source, and what the definition makes of it.
use Rattle.std.proofs.Common.{◌≡◌, ◌∙◌, ℕ, zero, suc, ◌+◌, ◌<◌, ◌≤◌, Bool, true, false, if◌then◌else◌, List, [], ◌∷◌, length, drop, get_or, map, zip, refl, sym, ap, arith, ℤ, pos, negsuc}
use Rattle.std.proofs.Common.{unsigned_abs, Some, None, Ok, Err, length-drop, length-take-le}
use Rattle.std.specs.Option.{ok_or}
use Rattle.std.proofs.lemmas.Bool.{leb-true}
use Rattle.std.proofs.lemmas.List.{get_or-map, length-map}
use Rattle.std.proofs.lemmas.Slice.Zip.{get_or-zip, length-zip}
use Rattle.cvl_base.specs.declared.fault.FaultNo.TheVariants.{IndexOutOfRange}
use Rattle.cvl_base.specs.Elementwise.{values_from}
use Rattle.cvl_base.specs.Faults.{fault_at}
use Rattle.cvl_base.specs.Gives.{◌>>=◌}
use Rattle.cvl_base.specs.Lists.{joined}
use Rattle.cvl_base.proofs.Elementwise.{if_as_long-fits}
use Rattle.segment_slices.specs.Slices.{gather_segments_of, is_slice, slice_at, slice_within, slices_of}

-- ---- a slice of m elements

pub slice_ends : (m : ℕ) (start n : ℤ) → is_slice m start n ≡ true → unsigned_abs start + unsigned_abs n ≤ m
slice_ends m (pos start) (pos n) is = leb-true (start + n) m is
slice_ends m (pos start) (negsuc n) is = absurd (cc)
slice_ends m (negsuc start) n is = absurd (cc)

pub slice_begins : (m : ℕ) (start n : ℤ) → is_slice m start n ≡ true → start ≡ pos (unsigned_abs start)
slice_begins m (pos start) n is = refl
slice_begins m (negsuc start) n is = absurd (cc)

pub slice_counts : (m : ℕ) (start n : ℤ) → is_slice m start n ≡ true → n ≡ pos (unsigned_abs n)
slice_counts m start (pos n) is = refl
slice_counts m (pos start) (negsuc n) is = absurd (cc)
slice_counts m (negsuc start) (negsuc n) is = absurd (cc)

module _ {X : Type 0} (source : List X) where
  pub slice_long : (start n : ℤ) → is_slice (length source) start n ≡ true → length (slice_at source (start, n)) ≡ unsigned_abs n
  slice_long start n is =
      length-take-le (unsigned_abs n) (drop (unsigned_abs start) source) (omega (arith, length-drop (unsigned_abs start) source, slice_ends (length source) start n is))

  -- ---- some slices, each told by its start and its length

  abbrev is_slice_at : List (ℤ × ℤ) → ℕ → Bool
  is_slice_at slices s = is_slice (length source) (get_or slices s (pos 0, pos 0)).0 (get_or slices s (pos 0, pos 0)).1

  here : (slice : ℤ × ℤ) (b : Bool) → is_slice (length source) slice.0 slice.1 ≡ b → slice_within source slice ≡ (if b then Some (slice_at source slice) else None)
  here slice b is = ap (λ v. if v then Some (slice_at source slice) else None) is

  all_within : (place : ℕ) (slices : List (ℤ × ℤ)) → ((s : ℕ) → s < length slices → is_slice_at slices s ≡ true)
      → values_from IndexOutOfRange place (map (slice_within source) slices) ≡ Ok (map (slice_at source) slices)
  all_within place [] each = refl
  all_within place (slice ∷ slices) each =
      ap (λ v. ok_or v (fault_at IndexOutOfRange place) >>= λ y. values_from IndexOutOfRange (place + 1) (map (slice_within source) slices) >>= λ ys. Ok (y ∷ ys))
      (here slice true (each 0 (omega arith)))
      ∙ ap (λ r. r >>= λ ys. Ok (slice_at source slice ∷ ys)) (all_within (place + 1) slices (λ s lt. each (suc s) (omega arith)))

  first_outside : (place : ℕ) (slices : List (ℤ × ℤ)) (s : ℕ) → s < length slices → ((k : ℕ) → k < s → is_slice_at slices k ≡ true) → is_slice_at slices s ≡ false
      → values_from IndexOutOfRange place (map (slice_within source) slices) ≡ Err (fault_at IndexOutOfRange (place + s))
  first_outside place [] s lt each outside = absurd (omega arith)
  first_outside place (slice ∷ slices) zero lt each outside =
      ap (λ v. ok_or v (fault_at IndexOutOfRange place) >>= λ y. values_from IndexOutOfRange (place + 1) (map (slice_within source) slices) >>= λ ys. Ok (y ∷ ys))
      (here slice false outside)
      ∙ ap (λ p. Err (fault_at IndexOutOfRange p)) (omega arith)
  first_outside place (slice ∷ slices) (suc s) lt each outside =
      ap (λ v. ok_or v (fault_at IndexOutOfRange place) >>= λ y. values_from IndexOutOfRange (place + 1) (map (slice_within source) slices) >>= λ ys. Ok (y ∷ ys))
      (here slice true (each 0 (omega arith)))
      ∙ ap (λ r. r >>= λ ys. Ok (slice_at source slice ∷ ys)) (first_outside (place + 1) slices s (omega arith) (λ k below. each (suc k) (omega arith)) outside)
      ∙ ap (λ p. Err (fault_at IndexOutOfRange p)) (omega arith)

  -- ---- as many starts as lengths

  module _ (starts lengths : List ℤ) (as_many : length starts ≡ length lengths) where
    many : length (zip starts lengths) ≡ length starts
    many = length-zip starts lengths ∙ omega (arith, as_many)

    pub slices_many : length (slices_of source starts lengths) ≡ length starts
    slices_many = length-map (zip starts lengths) (slice_at source) ∙ many

    told : (b : Bool) (s : ℕ) → s < length starts → is_slice (length source) (get_or starts s (pos 0)) (get_or lengths s (pos 0)) ≡ b → is_slice_at (zip starts lengths) s ≡ b
    told b s lt is = ap (λ slice. is_slice (length source) slice.0 slice.1) (get_or-zip starts lengths s (pos 0, pos 0) lt (omega (arith, as_many))) ∙ is

    -- list s of the slices
    pub slice_is : (s : ℕ) → s < length starts → slice_at source (get_or starts s (pos 0), get_or lengths s (pos 0)) ≡ get_or (slices_of source starts lengths) s []
    slice_is s lt =
        ap (slice_at source) (sym (get_or-zip starts lengths s (pos 0, pos 0) lt (omega (arith, as_many))))
        ∙ sym (get_or-map (slice_at source) (zip starts lengths) s (pos 0, pos 0) [] (omega (arith, many)))

    pub gather_right : ((k : ℕ) → k < length starts → is_slice (length source) (get_or starts k (pos 0)) (get_or lengths k (pos 0)) ≡ true)
        → gather_segments_of source starts lengths ≡ Ok (joined (slices_of source starts lengths))
    gather_right each =
        if_as_long-fits starts lengths (values_from IndexOutOfRange 0 (map (slice_within source) (zip starts lengths)) >>= λ slices. Ok (joined slices)) as_many
        ∙ ap (λ r. r >>= λ slices. Ok (joined slices)) (all_within 0 (zip starts lengths) (λ s lt. let below : s < length starts = omega (arith, many) in told true s below (each s below)))

    pub gather_fails : (s : ℕ) → s < length starts → ((k : ℕ) → k < s → is_slice (length source) (get_or starts k (pos 0)) (get_or lengths k (pos 0)) ≡ true)
        → is_slice (length source) (get_or starts s (pos 0)) (get_or lengths s (pos 0)) ≡ false
        → gather_segments_of source starts lengths ≡ Err (fault_at IndexOutOfRange s)
    gather_fails s lt each outside =
        if_as_long-fits starts lengths (values_from IndexOutOfRange 0 (map (slice_within source) (zip starts lengths)) >>= λ slices. Ok (joined slices)) as_many
        ∙ ap (λ r. r >>= λ slices. Ok (joined slices))
        (first_outside 0 (zip starts lengths) s (omega (arith, many)) (λ k below. told true k (omega arith) (each k below)) (told false s lt outside))
        ∙ ap (λ p. Err (fault_at IndexOutOfRange p)) (omega arith)
