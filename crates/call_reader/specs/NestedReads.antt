-- What the readers of a nested text keep, token by token.
-- Source: the grammar of a nested text.
use Rattle.std.specs.Prelude.{◌≡◌, ◌≤◌, ℕ, ◌+◌, Bool, true, false, List, [], ◌∷◌, ◌++◌, length, map, count_by, flat_map, Err, ℤ, pos}
use Rattle.cvl_base.specs.declared.fault.FaultNo.TheVariants.{BadInput}
use Rattle.cvl_base.specs.Faults.{fault_at}
use Rattle.cvl_base.specs.Lists.{joined}
use Rattle.call_reader.specs.NestedTexts.{Mark, opening, closing, number, stray, Where, marks_of}
use Rattle.call_reader.specs.NestedTexts.{is_opening, is_no_bracket, are_too_many, lists_from, list_marks, nest_marks}

-- whether a token is `]`
abbrev pub is_closing : Mark → Bool
is_closing opening = false
is_closing closing = true
is_closing (number n) = false
is_closing stray = false

-- whether a token is a number
abbrev pub is_number : Mark → Bool
is_number opening = false
is_number closing = false
is_number (number n) = true
is_number stray = false

-- whether the first mark is such a one
abbrev pub begin_with : (Mark → Bool) → List Mark → Bool
begin_with is_such [] = false
begin_with is_such (mark ∷ marks) = is_such mark

-- whether no token is left
abbrev pub is_no_mark : List Mark → Bool
is_no_mark [] = true
is_no_mark (mark ∷ marks) = false

-- numbers pushed after others: those that the bytes write before the rest
pub record ArePushed (bytes rest : List ℕ) (old new : List ℤ) : Type 0 where
  pub pushed : List ℤ
  pub numbers : new ≡ old ++ pushed
  pub marks : marks_of bytes ≡ map number pushed ++ marks_of rest

-- the inner lists that the bytes write before the rest, as their numbers and their lengths
pub record AreListsRead (bytes rest : List ℕ) (numbers lengths : List ℤ) : Type 0 where
  pub lists : List (List ℤ)
  pub numbers_are : numbers ≡ joined lists
  pub lengths_are : lengths ≡ map pos (map length lists)
  pub marks : marks_of bytes ≡ flat_map list_marks lists ++ marks_of rest

-- the nest that the bytes write, as its numbers and its lengths
pub record IsNestRead (bytes : List ℕ) (numbers lengths : List ℤ) : Type 0 where
  pub lists : List (List ℤ)
  pub numbers_are : numbers ≡ joined lists
  pub lengths_are : lengths ≡ map pos (map length lists)
  pub marks : marks_of bytes ≡ nest_marks lists

-- the fault at this place is the grammar's, if there are not too many tokens
abbrev pub IsFaultAt : ℕ → Where → ℕ → List Mark → List Mark → Type 0
IsFaultAt place stands first marks whole = are_too_many whole ≡ false → lists_from stands first marks ≡ Err (fault_at BadInput place)

-- vectors with so much room have room for the numbers and the lengths, if there are not too many tokens
abbrev pub HasRoom : ℕ → ℕ → List Mark → Type 0
HasRoom numbers lengths marks =
    are_too_many marks ≡ false → (count_by is_no_bracket marks ≤ numbers) × (count_by is_opening marks ≤ lengths + 1)
