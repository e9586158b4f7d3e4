-- The lengths of runs at the front of a room.
use Rattle.std.proofs.Common.{◌≡◌, ◌∙◌, ℕ, ◌+◌, ◌≤◌, List, [], ◌∷◌, ◌++◌, length, map, drop, take, ℤ, Result, Ok, Err, refl, sym, ap, arith, subst}
use Rattle.std.proofs.Common.{append_assoc, length-append, take_at, drop_at}
use Rattle.std.proofs.lemmas.Bool.{le-ltb}
use Rattle.std.proofs.lemmas.List.{drop-drop, length-map, length-take-le}
use Rattle.std.proofs.lemmas.Option.{none-some, same_Some}
use Rattle.std.specs.Result.{result_ok}
use Rattle.cvl_base.specs.declared.fault.Fault.{Fault}
use Rattle.cvl_base.specs.declared.fault.FaultNo.TheVariants.{LengthMismatch}
use Rattle.cvl_base.specs.Faults.{fault}
use Rattle.cvl_base.specs.Gives.{fault_if}
use Rattle.cvl_base.specs.Rooms.{Overwrites, at_front}
use Rattle.run_lengths.specs.Runs.{its_length, numbers_from}
use Rattle.run_parts.specs.Runs.{lengths_of_runs}

module _ {X : Type 0} where
  pub lengths-are : (place : ℕ) (runs : List (List X)) → numbers_from its_length place runs ≡ lengths_of_runs runs
  lengths-are place [] = refl
  lengths-are place (run ∷ runs) = ap (λ ns. its_length place (length run) ∷ ns) (lengths-are (place + length run) runs)

  pub length-lengths : (runs : List (List X)) → length (lengths_of_runs runs) ≡ length runs
  length-lengths runs = length-map runs (λ run. its_length 0 (length run))

-- a call that has a value has written it
pub has_written : {X : Type 0} (value before now : List X) (answer : Result (Unit {0}) Fault) → Overwrites (Ok value) answer before now → now ≡ value
has_written value before now (Ok done) told = sym (same_Some value now (ap result_ok told))
has_written value before now (Err f) told = absurd (none-some value (sym (ap result_ok told.0)))

-- a list that a room has places for stands at its front
pub in_front : {X : Type 0} (room xs now : List X) (answer : Result (Unit {0}) Fault) → length xs ≤ length room → Overwrites (at_front room xs) answer room now
    → now ≡ xs ++ drop (length xs) room
in_front room xs now answer fits told =
    let value = xs ++ drop (length xs) room in
    has_written value room now answer
    (subst (λ m. Overwrites m answer room now) (ap (λ b. fault_if b (fault LengthMismatch) (Ok value)) (le-ltb (length room) (length xs) fits)) told)

-- a list behind the first places of a room, whose rest stays as it is
module _ (own xs done rest new : List ℤ) (from count : ℕ) (some : from ≤ length own) (is_done : done ≡ take from own) (is_rest : rest ≡ drop from own)
    (now : new ≡ xs ++ drop (length xs) rest) (many : count ≡ length xs) where
  whole : done ++ new ≡ (take from own ++ xs) ++ drop (length xs) rest
  whole = (λ i. is_done i ++ now i) ∙ sym (append_assoc (take from own) xs (drop (length xs) rest))

  long : from + count ≡ length (take from own ++ xs)
  long = omega (arith, many, length-append (take from own) xs, length-take-le from own some)

  pub front_put : take (from + count) (done ++ new) ≡ take from own ++ xs
  front_put = ap (take (from + count)) whole ∙ take_at (take from own ++ xs) (drop (length xs) rest) (from + count) (sym long)

  pub rest_kept : drop (from + count) (done ++ new) ≡ drop (from + count) own
  rest_kept =
      ap (drop (from + count)) whole ∙ drop_at (take from own ++ xs) (drop (length xs) rest) (from + count) (sym long)
      ∙ ap (drop (length xs)) is_rest ∙ drop-drop (length xs) from own ∙ ap (λ n. drop (from + n) own) (sym many)
