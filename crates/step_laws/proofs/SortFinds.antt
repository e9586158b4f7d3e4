-- The passes that the parts' bits say leave out only digits that all keys have in common.
use Rattle.std.proofs.Common.{◌≡◌, ◌∙◌, ℕ, ◌+◌, ◌/◌, ◌%◌, ◌^◌, ◌<◌, ◌==◌, ◌||◌, ℤ, Bool, true, false, cond, not, All, List, ap, arith, eqb, length, map, Ok, refl, sym}
use Rattle.std.proofs.Common.{zero, suc, ◌*◌}
use Rattle.std.specs.List.{AllPass, AllZip}
use Rattle.std.proofs.lemmas.Bool.{eqb-true, true≢false}
use Rattle.std.proofs.lemmas.List.{length-map}
use Rattle.std.proofs.lemmas.Nat.{mod_below, pow_pos}
use mathlib.Core.List.{map-map}
use Rattle.call_laws.proofs.InParts.{fold-parts}
use Rattle.call_table.specs.declared.families.IntMonoid.{IntMonoid}
use Rattle.call_table.specs.declared.families.IntMonoid.TheVariants.{And, Ior}
use Rattle.cvl_base.proofs.Elementwise.{if_as_long-fits}
use Rattle.cvl_base.specs.ItemWords.{is_number}
use Rattle.cvl_base.specs.Scans.{int_reduce_of, int_unit_of}
use Rattle.sort_parts.proofs.SharedDigits.{shared}
use Rattle.sort_parts.specs.Passes.{bits_of, is_made, is_shared, key_bits_of}
use Rattle.stable_sorts.specs.Keys.{above_least}
use Rattle.stable_sorts.specs.Steps.{digit_of_pass}
use Rattle.step_laws.proofs.AnyOrder.{in_any_order}
use Rattle.step_laws.proofs.Answered.{is_given, past_limit}
use Rattle.step_laws.proofs.Operators.{int_laws}
use Rattle.step_laws.proofs.Parted.{alike, all-parts}
use Rattle.step_laws.specs.Parts.{Part, elements_of, told_of}
use Rattle.step_laws.specs.SortSteps.{FindsPasses, TellsBits}

-- whether the bit of a pass is set
abbrev pub is_set : ℕ → ℕ → Bool
is_set bits pass = bits / 2 ^ pass % 2 == 1

-- ---- bits

read_bits : (a b c : Bool) → let n : ℕ = cond a 1 0 + cond b 2 0 + cond c 4 0 in (is_set n 0 ≡ a) × (is_set n 1 ≡ b) × (is_set n 2 ≡ c)
read_bits true true true = (refl, refl, refl)
read_bits true true false = (refl, refl, refl)
read_bits true false true = (refl, refl, refl)
read_bits true false false = (refl, refl, refl)
read_bits false true true = (refl, refl, refl)
read_bits false true false = (refl, refl, refl)
read_bits false false true = (refl, refl, refl)
read_bits false false false = (refl, refl, refl)

bit_is : (made : ℕ → Bool) (pass : ℕ) → pass < 3 → is_set (bits_of made) pass ≡ made pass
bit_is made zero below = (read_bits (made 0) (made 1) (made 2)).0
bit_is made (suc zero) below = (read_bits (made 0) (made 1) (made 2)).1
bit_is made (suc (suc zero)) below = (read_bits (made 0) (made 1) (made 2)).2
bit_is made (suc (suc (suc n))) below = absurd (omega (arith, below))

shared_if : (a b : Bool) → (not a || b) ≡ false → a ≡ true
shared_if true b is = refl
shared_if false b is = absurd (true≢false is)

-- ---- what the parts tell is told of the whole

module _ (start left : List (Part ℤ (ℤ × ℤ) ℤ)) (numbers : AllPass is_number (elements_of start)) (zipped : AllZip TellsBits start left) where
  -- by an operator that says what is read of the bits that a part tells
  told-whole : (o : IntMonoid) (read : ℤ × ℤ → ℤ) → ((xs : List ℤ) → read (key_bits_of xs) ≡ int_reduce_of o xs)
      → int_reduce_of o (map read (told_of left)) ≡ int_reduce_of o (elements_of start)
  told-whole o read is =
      let told : map (λ p. read p.told) left ≡ map (λ p. int_reduce_of o p.elements) start =
      alike TellsBits (λ p. int_reduce_of o p.elements) (λ p. read p.told)
      (λ own tells does. ap read (sym (past_limit _ _ (key_bits_of own.elements) tells.told (is_given _ own.told tells.told does.0))) ∙ is own.elements)
      start left zipped in
      let parts = map (λ (p : Part ℤ (ℤ × ℤ) ℤ). p.elements) start in
      ap (int_reduce_of o)
      (map-map read (λ (p : Part ℤ (ℤ × ℤ) ℤ). p.told) left ∙ told ∙ sym (map-map (int_reduce_of o) (λ (p : Part ℤ (ℤ × ℤ) ℤ). p.elements) start))
      ∙ sym (fold-parts (int_laws o) (int_unit_of o) parts (int_laws o).unit_is_item (all-parts (λ p. p.elements) (λ x. is_number x ≡ true) start numbers))

module _ (start : List (Part ℤ (ℤ × ℤ) ℤ)) (bits : ℕ) (numbers : AllPass is_number (elements_of start)) (found : FindsPasses start bits) where
  -- the digit that keys have in common, if they have
  abbrev pub common : ℕ → ℕ
  common pass = digit_of_pass pass (int_reduce_of And (elements_of start))

  pub common-below : (pass : ℕ) → common pass < 2048
  common-below pass = mod_below (above_least (int_reduce_of And (elements_of start)) / 2 ^ (11 * pass)) (2 ^ 11) (pow_pos 11)

  pub have_common : (pass : ℕ) → pass < 3 → is_set bits pass ≡ false → All (λ key. digit_of_pass pass key ≡ common pass) (elements_of start)
  have_common pass below not_set =
      let zipped = in_any_order TellsBits start found.left found.tells in
      let alls = map (λ (b : ℤ × ℤ). b.0) (told_of found.left) in
      let anys = map (λ (b : ℤ × ℤ). b.1) (told_of found.left) in
      let in_all = told-whole start found.left numbers zipped And (λ b. b.0) (λ xs. refl) in
      let in_any = told-whole start found.left numbers zipped Ior (λ b. b.1) (λ xs. refl) in
      let as_many : length alls ≡ length anys =
      length-map (told_of found.left) (λ (b : ℤ × ℤ). b.0) ∙ sym (length-map (told_of found.left) (λ (b : ℤ × ℤ). b.1)) in
      let told : Ok (bits_of (is_made alls anys)) ≡ Ok bits =
      sym (if_as_long-fits alls anys (Ok (bits_of (is_made alls anys))) as_many) ∙ is_given _ found.before bits found.told in
      let is : bits_of (is_made alls anys) ≡ bits = cc in
      let not_made : is_made alls anys pass ≡ false = sym (bit_is (is_made alls anys) pass below) ∙ ap (λ n. is_set n pass) is ∙ not_set in
      let same : digit_of_pass pass (int_reduce_of And alls) ≡ digit_of_pass pass (int_reduce_of Ior anys) =
      eqb-true _ _ (shared_if (is_shared alls anys pass) _ not_made) in
      shared (elements_of start) pass numbers
      (ap (digit_of_pass pass) (sym in_all) ∙ same ∙ ap (digit_of_pass pass) in_any)
