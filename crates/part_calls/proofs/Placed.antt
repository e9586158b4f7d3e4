-- The place of an input's fault is that of one of its words, which are no more than a vector may have elements.
use Rattle.part_calls.proofs.Cited.{nat_lt, IfSome, Result, ◌≡◌, ℕ, ◌≤◌, ℤ, Bool, true, false, List, Option, Some, None, Ok, Err, arith, length, map, refl, subst, sym, ltb-false, BadInput, TooLong}
use Rattle.part_calls.proofs.Cited.{fault, most_places}
use Rattle.std.proofs.lemmas.List.{length-map}
use Rattle.cvl_base.specs.declared.fault.Fault.{Fault}
use Rattle.cvl_base.specs.Elementwise.{values_from}
use Rattle.cvl_base.specs.Gives.{fault_if}
use Rattle.call_reader.specs.Inputs.{input_class, input_within}
use Rattle.line_reader.specs.Numbers.{written_number}
use Rattle.call_reader.specs.Pieces.{numbers_of, or_zero}
use Rattle.line_reader.specs.Tokens.{tokens_by}
use Rattle.call_reader.proofs.PieceWalk.{answer_of, answered, wrong_within}
use Rattle.fresh.specs.Found.{first_without}

abbrev place_of : Result (List ℤ) Fault → Option ℕ
place_of (Ok xs) = None
place_of (Err f) = f.place

abbrev IsWithin : Option ℕ → Type 0
IsWithin place = IfSome place (λ p. p ≤ most_places)

module _ (bytes : List ℕ) where
  abbrev count : ℕ
  count = length (tokens_by input_class bytes)

  found : count ≤ most_places → (wrong : Option ℕ) → first_without 0 (numbers_of bytes) ≡ wrong → IsWithin (place_of (answer_of wrong (map or_zero (numbers_of bytes))))
  found most None e = tt
  found most (Some w) e =
      let below : w ≤ most_places = omega (arith, most, wrong_within 0 w (numbers_of bytes) e, length-map (tokens_by input_class bytes) written_number) in
      below

  asked : (b : Bool) → nat_lt most_places count ≡ b → IsWithin (place_of (fault_if b (fault TooLong) (values_from BadInput 0 (numbers_of bytes))))
  asked true e = tt
  asked false e =
      subst (λ r. IsWithin (place_of r)) (sym (answered 0 (numbers_of bytes)))
      (found (ltb-false most_places count e) (first_without 0 (numbers_of bytes)) refl)

  pub placed : (f : Fault) → input_within most_places bytes ≡ Err f → IfSome f.place (λ p. p ≤ most_places)
  placed f is = subst (λ r. IsWithin (place_of r)) is (asked (nat_lt most_places count) refl)
