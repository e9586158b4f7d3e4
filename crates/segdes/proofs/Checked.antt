-- The front of a list of numbers that was checked: none of it is negative, and its total is known.
use Rattle.std.proofs.Common.{◌≡◌, ℕ, ◌+◌, ◌*◌, ◌<◌, ◌≤◌, Bool, true, false, ℤ, pos, negsuc, List, length, get_or, take, map, sum, unsigned_abs, refl, sym, ap, ◌∙◌, subst, arith, below_more}
use Rattle.std.proofs.Common.{w32, to_z, of_z, FitsSigned}
use Rattle.std.specs.Prelude.{position, Option, Some, None, Ok, Err, cond, nat_lt, option_map}
use Rattle.std.specs.Int.{is_negative}
use Rattle.std.specs.List.{position_or_len}
use Rattle.std.proofs.lemmas.Bool.{lt-ltb, le-ltb}
use Rattle.std.proofs.lemmas.Int.{ints, to_z-of_z}
use Rattle.std.proofs.lemmas.List.{get_or-map, length-map}
use Rattle.std.proofs.lemmas.List.Sums.{position_or_len_is, sum-map, sum_by_more}
use Rattle.std.proofs.Math.Seq.{take-length}
use Rattle.cvl_base.specs.declared.fault.FaultNo.TheVariants as no
use Rattle.cvl_base.specs.Descriptors.{AreLengthsWithin, descriptor_within}
use Rattle.cvl_base.specs.Faults.{fault, fault_at}
use Rattle.cvl_base.specs.Gives.{unless, fault_if}
use Rattle.cvl_base.specs.Limits.{most_places}
use Rattle.cvl_base.proofs.Descriptors.{natural, not_negative, position-lengths, position-none}

-- none of the first i numbers is negative
abbrev pub AreNatural : ℕ → List ℤ → Type 0
AreNatural i numbers = (k : ℕ) → k < i → is_negative (get_or numbers k (pos 0)) ≡ false

pub record IsCheckedTo (i : ℕ) (numbers : List ℤ) (total : ℕ) : Type 0 where
  pub none_negative : AreNatural i numbers
  pub is_total : total ≡ sum (map unsigned_abs (take i numbers))
  pub small : total ≤ i * 2147483648

-- the definition at what the two checks found
made : (most : ℕ) (numbers : List ℤ) (p : Option ℕ) (b : Bool) → position is_negative numbers ≡ p → nat_lt most (sum (map unsigned_abs numbers)) ≡ b
    → descriptor_within most numbers ≡ unless (option_map (fault_at no.NegativeLength) p) (fault_if b (fault no.TooLong) (Ok (map unsigned_abs numbers)))
made most numbers p b e f =
    λ i. unless (option_map (fault_at no.NegativeLength) (e i)) (fault_if (f i) (fault no.TooLong) (Ok (map unsigned_abs numbers)))

position-at : (numbers : List ℤ) (i : ℕ) → i < length numbers → position_or_len is_negative numbers ≡ i → position is_negative numbers ≡ Some i
position-at numbers i lt e =
    (λ j. cond (nat_lt (e j) (length numbers)) (Some (e j)) None) ∙ ap (λ b. cond b (Some i) None) (lt-ltb i (length numbers) lt)

pub negative_at : (most i : ℕ) (numbers : List ℤ) → AreNatural i numbers → i < length numbers → is_negative (get_or numbers i (pos 0)) ≡ true
    → descriptor_within most numbers ≡ Err (fault_at no.NegativeLength i)
negative_at most i numbers before lt e =
    made most numbers (Some i) (nat_lt most (sum (map unsigned_abs numbers)))
    (position-at numbers i lt (position_or_len_is is_negative numbers i (pos 0) (omega arith) before (λ _. e)))
    refl

-- lengths whose total is above the limit
pub too_long : (most i : ℕ) (numbers : List ℤ) → AreNatural i numbers → length numbers ≤ i
    → (numbers ≡ map pos (map unsigned_abs numbers) → most < sum (map unsigned_abs numbers)) → descriptor_within most numbers ≡ Err (fault no.TooLong)
too_long most i numbers before ge long =
    let all : AreNatural (length numbers) numbers = λ k lt. before k (omega arith) in
    let none : position is_negative numbers ≡ None = position-none numbers (position_or_len_is is_negative numbers (length numbers) (pos 0) (omega arith) all (λ lt. absurd (omega arith))) in
    made most numbers None true none (lt-ltb most (sum (map unsigned_abs numbers)) (long (natural numbers all)))

-- ---- all numbers were checked

module _ (i : ℕ) (numbers : List ℤ) (total : ℕ) (checked : IsCheckedTo i numbers total) (le : i ≤ length numbers) (ge : length numbers ≤ i) where
  all : IsCheckedTo (length numbers) numbers total
  all = let same : i ≡ length numbers = omega arith in subst (λ (n : ℕ). IsCheckedTo n numbers total) same checked

  pub whole : total ≡ sum (map unsigned_abs numbers)
  whole = all.is_total ∙ ap (λ ns. sum (map unsigned_abs ns)) (take-length numbers)

  pub are-lengths : (most : ℕ) → total ≤ most → length numbers ≤ most → AreLengthsWithin most numbers
  are-lengths most short few = record {
    none_negative = natural numbers all.none_negative;
    few = few;
    in_limit = omega (arith, whole);
  }

-- ---- the numbers read without their signs

-- the total of the first i of them: where it is a length, so is each; and it is the total of lengths
pub record IsUnsignedTotal (i : ℕ) (numbers : List ℤ) (total : ℕ) : Type 0 where
  pub small : total ≤ i * 4294967296
  pub checked : total ≤ most_places → IsCheckedTo i numbers total
  pub lengths : numbers ≡ map pos (map unsigned_abs numbers) → total ≡ sum (map unsigned_abs (take i numbers))

unsigned_is : (number : ℤ) (n : ℕ) → FitsSigned w32 number → n ≡ of_z w32 (to_z w32 (of_z w32 number)) → n ≤ most_places → number ≡ pos n
unsigned_is (pos a) n fits cast small = ap (λ k. pos k) (sym (cast ∙ ap (of_z w32) (to_z-of_z w32 (pos a) fits)))
unsigned_is (negsuc a) n fits cast small = let same : n ≡ of_z w32 (negsuc a) = cast ∙ ap (of_z w32) (to_z-of_z w32 (negsuc a) fits) in absurd (omega (arith, ints))

amount_is : (number : ℤ) (m n : ℕ) → FitsSigned w32 number → n ≡ of_z w32 (to_z w32 (of_z w32 number)) → number ≡ pos m → unsigned_abs number ≡ n
amount_is (pos a) m n fits cast is = sym (cast ∙ ap (of_z w32) (to_z-of_z w32 (pos a) fits))
amount_is (negsuc a) m n fits cast is = cc

module _ (i : ℕ) (numbers : List ℤ) (total n : ℕ) (lt : i < length numbers) where
  length_at : numbers ≡ map pos (map unsigned_abs numbers) → get_or numbers i (pos 0) ≡ pos (get_or (map unsigned_abs numbers) i 0)
  length_at are = ap (λ l. get_or l i (pos 0)) are ∙ get_or-map pos (map unsigned_abs numbers) i 0 (pos 0) (omega (arith, lt, length-map numbers unsigned_abs))

  checked_more : IsCheckedTo i numbers total → get_or numbers i (pos 0) ≡ pos n → n ≤ most_places → IsCheckedTo (i + 1) numbers (total + n)
  checked_more checked is small = record {
    none_negative = below_more (λ k. is_negative (get_or numbers k (pos 0)) ≡ false) i checked.none_negative (ap is_negative is ∙ not_negative n);
    is_total = omega (arith, checked.is_total, sum-map unsigned_abs (take (i + 1) numbers), sum-map unsigned_abs (take i numbers), sum_by_more unsigned_abs numbers i (pos 0) lt, ap unsigned_abs is);
    small = omega (arith, checked.small, small);
  }

  pub unsigned_more : IsUnsignedTotal i numbers total → n < 4294967296 → FitsSigned w32 (get_or numbers i (pos 0)) → n ≡ of_z w32 (to_z w32 (of_z w32 (get_or numbers i (pos 0))))
      → IsUnsignedTotal (i + 1) numbers (total + n)
  unsigned_more to below fits cast = record {
    small = omega (arith, to.small, below);
    checked = λ small. checked_more (to.checked (omega (arith, small))) (unsigned_is (get_or numbers i (pos 0)) n fits cast (omega (arith, small))) (omega (arith, small));
    lengths = λ are.
        let amount = amount_is (get_or numbers i (pos 0)) (get_or (map unsigned_abs numbers) i 0) n fits cast (length_at are) in
        omega (arith, to.lengths are, sum-map unsigned_abs (take (i + 1) numbers), sum-map unsigned_abs (take i numbers), sum_by_more unsigned_abs numbers i (pos 0) lt, amount);
  }

-- lengths make a descriptor
pub lengths_made : (most : ℕ) (numbers : List ℤ) → numbers ≡ map pos (map unsigned_abs numbers) → sum (map unsigned_abs numbers) ≤ most → descriptor_within most numbers ≡ Ok (map unsigned_abs numbers)
lengths_made most numbers are small =
    made most numbers None false (ap (position is_negative) are ∙ position-lengths (map unsigned_abs numbers)) (le-ltb most (sum (map unsigned_abs numbers)) small)
