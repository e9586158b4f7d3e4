-- Operators and choices on bytes are those on the flags that the bytes stand for.
-- Source: what the definitions of map and zip imply.
use Rattle.std.proofs.Common.{◌≡◌, ◌∙◌, ℕ, ◌==◌, Bool, true, false, not, List, [], ◌∷◌, length, map, Result, Ok, refl, ap}
use Rattle.std.specs.List.{zip}
use Rattle.std.proofs.lemmas.List.{length-map}
use Rattle.cvl_base.specs.declared.fault.Fault.{Fault}
use Rattle.cvl_base.specs.declared.fault.FaultNo.TheVariants.{LengthMismatch}
use Rattle.cvl_base.specs.Elementwise.{chosen, choose_of, if_as_long, on_pairs}
use Rattle.cvl_base.specs.Faults.{fault}
use Rattle.cvl_base.specs.Gives.{fault_if}
use Rattle.flag_calls.specs.Flags.{as_bytes, as_flag, byte_of, choose_by, flag_of, flags_of}

-- lengths that must agree are asked of bytes as of their flags
passed : (b : Bool) (flags : Result (List Bool) Fault) → as_bytes (fault_if b (fault LengthMismatch) flags) ≡ fault_if b (fault LengthMismatch) (as_bytes flags)
passed true flags = refl
passed false flags = refl

pairs : (f : Bool → Bool → Bool) (xs ys : List ℕ)
    → map byte_of (map (λ p. f p.0 p.1) (zip (flags_of xs) (flags_of ys))) ≡ map (λ p. byte_of (f (flag_of p.0) (flag_of p.1))) (zip xs ys)
pairs f [] [] = refl
pairs f [] (y ∷ ys) = refl
pairs f (x ∷ xs) [] = refl
pairs f (x ∷ xs) (y ∷ ys) = ap (λ tail. byte_of (f (flag_of x) (flag_of y)) ∷ tail) (pairs f xs ys)

-- an operator on flags, on bytes
pub on_bytes : (f : Bool → Bool → Bool) (xs ys : List ℕ)
    → as_bytes (on_pairs f (flags_of xs) (flags_of ys)) ≡ on_pairs (λ x y. byte_of (f (flag_of x) (flag_of y))) xs ys
on_bytes f xs ys =
    rw (length-map xs flag_of, length-map ys flag_of, passed (not (length xs == length ys)) (Ok (map (λ p. f p.0 p.1) (zip (flags_of xs) (flags_of ys)))), pairs f xs ys)

-- ---- choices

module _ {X : Type 0} where
  chosen_by_flags : (bytes : List ℕ) (ps : List (X × X))
      → map (λ p. chosen p.0 p.1) (zip (flags_of bytes) ps) ≡ map (λ p. chosen (flag_of p.0) p.1) (zip bytes ps)
  chosen_by_flags [] [] = refl
  chosen_by_flags [] (p ∷ ps) = refl
  chosen_by_flags (b ∷ bytes) [] = refl
  chosen_by_flags (b ∷ bytes) (p ∷ ps) = ap (λ tail. chosen (flag_of b) p ∷ tail) (chosen_by_flags bytes ps)

  -- a choice by flags, by bytes
  pub chosen_elements : (bytes : List ℕ) (xs ys : List X) → choose_of (flags_of bytes) xs ys ≡ choose_by flag_of (λ x. x) bytes xs ys
  chosen_elements bytes xs ys = rw (length-map bytes flag_of, chosen_by_flags bytes (zip xs ys))

  others : (f : X → X) (bytes : List ℕ) (xs ys : List X)
      → map (λ p. f (chosen (not (flag_of p.0)) p.1)) (zip bytes (zip ys xs)) ≡ map (λ p. f (chosen (flag_of p.0) p.1)) (zip bytes (zip xs ys))
  others f [] xs ys = refl
  others f (b ∷ bytes) [] [] = refl
  others f (b ∷ bytes) [] (y ∷ ys) = refl
  others f (b ∷ bytes) (x ∷ xs) [] = refl
  others f (b ∷ bytes) (x ∷ xs) (y ∷ ys) = λ i. f (other (flag_of b) i) ∷ others f bytes xs ys i
    where
      other : (flag : Bool) → chosen (not flag) (y, x) ≡ chosen flag (x, y)
      other true = refl
      other false = refl

  -- the choice of the other one
  pub other_way : (f : X → X) (bytes : List ℕ) (xs ys : List X) → choose_by (λ b. not (flag_of b)) f bytes ys xs ≡ choose_by flag_of f bytes xs ys
  other_way f bytes xs ys =
      ap (λ vs. if_as_long bytes ys (if_as_long bytes xs (Ok vs))) (others f bytes xs ys) ∙ swapped (not (length bytes == length ys)) (not (length bytes == length xs)) _
    where
      swapped : (b c : Bool) (r : Result (List X) Fault)
          → fault_if b (fault LengthMismatch) (fault_if c (fault LengthMismatch) r) ≡ fault_if c (fault LengthMismatch) (fault_if b (fault LengthMismatch) r)
      swapped true true r = refl
      swapped true false r = refl
      swapped false c r = refl

-- the byte of the flag that is chosen
chosen_byte : (flag : Bool) (x y : ℕ) → byte_of (chosen flag (flag_of x, flag_of y)) ≡ as_flag (chosen flag (x, y))
chosen_byte true x y = refl
chosen_byte false x y = refl

chosen_flags : (bytes xs ys : List ℕ)
    → map byte_of (map (λ p. chosen p.0 p.1) (zip (flags_of bytes) (zip (flags_of xs) (flags_of ys)))) ≡ map (λ p. as_flag (chosen (flag_of p.0) p.1)) (zip bytes (zip xs ys))
chosen_flags [] xs ys = refl
chosen_flags (b ∷ bytes) [] [] = refl
chosen_flags (b ∷ bytes) [] (y ∷ ys) = refl
chosen_flags (b ∷ bytes) (x ∷ xs) [] = refl
chosen_flags (b ∷ bytes) (x ∷ xs) (y ∷ ys) = λ i. chosen_byte (flag_of b) x y i ∷ chosen_flags bytes xs ys i

-- a choice of flags, of bytes
pub chosen_bytes : (bytes xs ys : List ℕ) → as_bytes (choose_of (flags_of bytes) (flags_of xs) (flags_of ys)) ≡ choose_by flag_of as_flag bytes xs ys
chosen_bytes bytes xs ys = rw (length-map bytes flag_of, length-map xs flag_of, length-map ys flag_of, passed, passed, chosen_flags bytes xs ys)

-- ---- one by one

-- an operator on each flag, on each byte
pub mapped : (f : Bool → Bool) (xs : List ℕ) → map byte_of (map f (flags_of xs)) ≡ map (λ x. byte_of (f (flag_of x))) xs
mapped f [] = refl
mapped f (x ∷ xs) = ap (λ tail. byte_of (f (flag_of x)) ∷ tail) (mapped f xs)
