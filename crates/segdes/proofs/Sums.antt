-- Lengths as they lie in memory, and the starts of the segments so far.
use Rattle.segdes.proofs.Cited.{◌≡◌, ℕ, ◌+◌, ◌<◌, ◌≤◌, List, [], ◌∷◌, ◌++◌, length, get_or, take, map, ℤ, pos, w32, Fits, to_z, of_z, ap, sym, ◌∙◌, subst, arith, below_more, sum, unsigned_abs}
use Rattle.segdes.proofs.Cited.{Width, IsNonNegative, get_or-map, length-map, get_or_append_left, sum_by-take-le, sum_by_more, sum_by_more_le, take-length, get_or-append_seam}
use Rattle.std.proofs.lemmas.Int.{to_z-of_z, fits_signed_from_abs}
use Rattle.cvl_base.specs.Limits.{most_places}
use Rattle.segdes.specs.Starts.{IsKept}

within : (row : List ℤ) (s : ℕ) (ns : List ℕ) → row ≡ map pos ns → s < length row → s < length ns
within row s ns is lt = omega (arith, ap length is, length-map ns pos)

pub in_row : (row : List ℤ) (s : ℕ) (ns : List ℕ) → row ≡ map pos ns → s < length ns → s < length row
in_row row s ns is lt = omega (arith, ap length is, length-map ns pos)

-- the length at s as it is read, a signed number of 32 bits
pub length_at : (row : List ℤ) (s : ℕ) (ns : List ℕ) → row ≡ map pos ns → sum ns ≤ most_places → s < length row
    → to_z w32 (of_z w32 (get_or row s (pos 0))) ≡ pos (get_or ns s 0)
length_at row s ns is small lt =
    let in_list : s < length ns = within row s ns is lt in
    let at : get_or row s (pos 0) ≡ pos (get_or ns s 0) = ap (λ xs. get_or xs s (pos 0)) is ∙ get_or-map pos ns s 0 (pos 0) in_list in
    ap (λ z. to_z w32 (of_z w32 z)) at
    ∙ to_z-of_z w32 (pos (get_or ns s 0)) (fits_signed_from_abs w32 (pos (get_or ns s 0)) (omega (arith, sum_by_more_le (λ x. x) ns s 0 in_list)))

-- so it fits where it is cast to
pub cast_fits : (w : Width) (row : List ℤ) (s : ℕ) (ns : List ℕ) → row ≡ map pos ns → sum ns ≤ most_places → s < length row → ((n : ℕ) → n ≤ most_places → Fits w n)
    → IsNonNegative (to_z w32 (of_z w32 (get_or row s (pos 0)))) × Fits w (unsigned_abs (to_z w32 (of_z w32 (get_or row s (pos 0)))))
cast_fits w row s ns is small lt wide =
    let within_total = sum_by_more_le (λ x. x) ns s 0 (within row s ns is lt) in
    let fits : Fits w (get_or ns s 0) = wide (get_or ns s 0) (omega arith) in
    subst (λ (z : ℤ). IsNonNegative z × Fits w (unsigned_abs z)) (sym (length_at row s ns is small lt)) (tt, fits)

-- a segment lies within the total
pub segment_within : (ns : List ℕ) (s : ℕ) → s < length ns → sum (take s ns) + get_or ns s 0 ≤ sum ns
segment_within ns s lt = omega (arith, sum_by_more (λ x. x) ns s 0 lt, sum_by-take-le (λ x. x) ns (s + 1))

pub record AreStartsTo (i : ℕ) (lengths starts : List ℕ) (end : ℕ) : Type 0 where
  pub sums : (s : ℕ) → s < i → get_or starts s 0 ≡ sum (take s lengths)
  pub is_end : end ≡ sum (take i lengths)

-- one more segment
pub starts_more : (row : List ℤ) (i : ℕ) (ns starts more : List ℕ) (end len : ℕ) → row ≡ map pos ns → sum ns ≤ most_places → i < length row
    → length starts ≡ i → more ≡ starts ++ end ∷ [] → len ≡ get_or ns i 0 → AreStartsTo i ns starts end → AreStartsTo (i + 1) ns more (end + len)
starts_more row i ns starts more end len is small lt count grown length_is to = record {
  sums = below_more (λ s. get_or more s 0 ≡ sum (take s ns)) i
      (λ s below. ap (λ xs. get_or xs s 0) grown ∙ get_or_append_left starts (end ∷ []) 0 s (omega arith) ∙ to.sums s below)
      (ap (λ xs. get_or xs i 0) grown ∙ ap (λ j. get_or (starts ++ end ∷ []) j 0) (sym count) ∙ get_or-append_seam starts end [] 0 ∙ to.is_end);
  is_end = omega (arith, sum_by_more (λ x. x) ns i 0 (within row i ns is lt), to.is_end);
}

-- all segments
pub starts_all : (row : List ℤ) (i : ℕ) (ns starts : List ℕ) (end : ℕ) → row ≡ map pos ns → sum ns ≤ most_places
    → length starts ≡ i → i ≤ length row → length row ≤ i → AreStartsTo i ns starts end → IsKept ns starts end
starts_all row i ns starts end is small count le ge to =
    let all : i ≡ length ns = omega (arith, ap length is, length-map ns pos) in
    let total : end ≡ sum ns = to.is_end ∙ ap (λ n. sum (take n ns)) all ∙ ap sum (take-length ns) in
    record {
      starts_are = record { one_each = count ∙ all; sums = λ s lt. to.sums s (omega arith) };
      total_is = total;
      in_limit = omega arith;
    }
