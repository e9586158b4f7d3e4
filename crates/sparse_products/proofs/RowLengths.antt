-- Lengths between offsets, of which the first few are known.
use Rattle.sparse_products.proofs.Cited.{rules, ◌≡◌, ℕ, ◌+◌, ◌<◌, ◌≤◌, true, false, ℤ, pos, ◌-ℤ◌, List, [], ◌∷◌, ◌++◌, length, get_or, sym, ap, ◌∙◌, arith, Some, None, Ok, Err, inl, inr, append-nil}
use Rattle.sparse_products.proofs.Cited.{append_assoc, drop, length-append, ◌<ℤ◌, ◌≤ℤ◌, cond, nat_lt, option_map, position, is_negative, position_or_len, lt-ltb, leb_tells, ints, drop_all}
use Rattle.sparse_products.proofs.Cited.{drop_more, get_or_append_left, position_or_len_is, fault_at, unless, lengths_after, none_negative}
use Rattle.std.proofs.Math.Seq.{get_or-append_seam}
use Rattle.cvl_base.specs.declared.fault.FaultNo.TheVariants as no
use Rattle.cvl_base.proofs.Descriptors.{position-none}

-- none of the numbers is negative
pub record AreNatural (numbers : List ℤ) : Type 0 where
  pub natural : (k : ℕ) → k < length numbers → is_negative (get_or numbers k (pos 0)) ≡ false

module _ (numbers : List ℤ) (are : AreNatural numbers) where
  pub one_more : (z : ℤ) → is_negative z ≡ false → AreNatural (numbers ++ z ∷ [])
  one_more z is = record {
    natural = λ k lt. elim (leb_tells (length numbers) k) [
      | inl t ↦ let last : k ≡ length numbers = omega (arith, t.1, lt, length-append numbers (z ∷ [])) in
          ap (λ j. is_negative (get_or (numbers ++ z ∷ []) j (pos 0))) last ∙ ap is_negative (get_or-append_seam numbers z [] (pos 0)) ∙ is
      | inr t ↦ ap is_negative (get_or_append_left numbers (z ∷ []) (pos 0) k t.1) ∙ are.natural k t.1
    ];
  }

  pub first_negative : (z : ℤ) (others : List ℤ) → is_negative z ≡ true → none_negative (numbers ++ z ∷ others) ≡ Err (fault_at no.NegativeLength (length numbers))
  first_negative z others is =
      let all = numbers ++ z ∷ others in
      let n = length numbers in
      let within : n < length all = omega (arith, length-append numbers (z ∷ others)) in
      let at : position_or_len is_negative all ≡ n =
      position_or_len_is is_negative all n (pos 0) (omega (arith, within))
      (λ k lt. ap is_negative (get_or_append_left numbers (z ∷ others) (pos 0) k lt) ∙ are.natural k lt)
      (λ _. ap is_negative (get_or-append_seam numbers z others (pos 0)) ∙ is) in
      let found : position is_negative all ≡ Some n = (λ i. cond (nat_lt (at i) (length all)) (Some (at i)) None) ∙ ap (λ b. cond b (Some n) None) (lt-ltb n (length all) within) in
      ap (λ o. unless (option_map (fault_at no.NegativeLength) o) (Ok all)) found

  pub all_natural : none_negative numbers ≡ Ok numbers
  all_natural =
      let none = position-none numbers (position_or_len_is is_negative numbers (length numbers) (pos 0) (omega arith) are.natural (λ lt. absurd (omega (arith, lt)))) in
      ap (λ o. unless (option_map (fault_at no.NegativeLength) o) (Ok numbers)) none

-- ---- lengths between offsets

negative_between : (a b : ℤ) → a <ℤ b → is_negative (a -ℤ b) ≡ true
negative_between a b less = let below : (a -ℤ b) <ℤ pos 0 = omega (arith, ints) in grind (arith, ints)

natural_between : (a b : ℤ) → b ≤ℤ a → is_negative (a -ℤ b) ≡ false
natural_between a b no_less = let above : pos 0 ≤ℤ (a -ℤ b) = omega (arith, ints) in grind (arith, ints)

module _ (offsets done : List ℤ) (row : ℕ) (before : ℤ) (lt : row < length offsets)
    (so_far : done ++ lengths_after before (drop row offsets) ≡ lengths_after (pos 0) offsets) (are : AreNatural done) where
  abbrev offset : ℤ
  offset = get_or offsets row (pos 0)

  whole : done ++ (offset -ℤ before) ∷ lengths_after offset (drop (row + 1) offsets) ≡ lengths_after (pos 0) offsets
  whole = sym (ap (λ os. done ++ lengths_after before os) (drop_more offsets row (pos 0) lt)) ∙ so_far

  pub falls_short : length done ≡ row → offset <ℤ before → none_negative (lengths_after (pos 0) offsets) ≡ Err (fault_at no.NegativeLength row)
  falls_short count less = cc (whole, first_negative done are (offset -ℤ before) (lengths_after offset (drop (row + 1) offsets)) (negative_between offset before less), count)

  pub one_length_more : (z : ℤ) → before ≤ℤ offset → z ≡ offset -ℤ before
      → ((done ++ z ∷ []) ++ lengths_after offset (drop (row + 1) offsets) ≡ lengths_after (pos 0) offsets) × AreNatural (done ++ z ∷ [])
  one_length_more z no_less is = (
    append_assoc done (z ∷ []) (lengths_after offset (drop (row + 1) offsets)) ∙ ap (λ y. done ++ y ∷ lengths_after offset (drop (row + 1) offsets)) is ∙ whole,
    one_more done are z (ap is_negative is ∙ natural_between offset before no_less),
  )

pub no_offset_left : (offsets done : List ℤ) (row : ℕ) (before : ℤ) → length offsets ≤ row → done ++ lengths_after before (drop row offsets) ≡ lengths_after (pos 0) offsets → AreNatural done
    → none_negative (lengths_after (pos 0) offsets) ≡ Ok done
no_offset_left offsets done row before ge so_far are = search (rules, append-nil, drop_all, all_natural)
