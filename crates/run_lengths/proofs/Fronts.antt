-- Numbers of runs at the front of a room.
use Rattle.std.proofs.Common.{◌≡◌, ◌∙◌, ℕ, suc, ◌+◌, ◌≤◌, List, [], ◌∷◌, ◌++◌, length, take, drop, ℤ, refl, sym, ap, arith, length-append, Ok}
use Rattle.std.proofs.lemmas.Bool.{le-ltb}
use Rattle.std.proofs.lemmas.List.{take-append-drop}
use Rattle.cvl_base.specs.declared.fault.FaultNo.TheVariants.{LengthMismatch}
use Rattle.cvl_base.specs.Faults.{fault}
use Rattle.cvl_base.specs.Gives.{fault_if}
use Rattle.cvl_base.specs.Lists.{joined}
use Rattle.cvl_base.specs.Rooms.{at_front}
use Rattle.run_lengths.specs.Runs.{numbers_from}

module _ {X : Type 0} (number : ℕ → ℕ → ℤ) where
  -- a number for each run
  pub length-numbers : (place : ℕ) (runs : List (List X)) → length (numbers_from number place runs) ≡ length runs
  length-numbers place [] = refl
  length-numbers place (run ∷ runs) = ap suc (length-numbers (place + length run) runs)

  -- runs behind others begin where these end
  pub numbers-append : (place : ℕ) (runs others : List (List X))
      → numbers_from number place (runs ++ others) ≡ numbers_from number place runs ++ numbers_from number (place + length (joined runs)) others
  numbers-append place [] others = let same : place ≡ place + 0 = omega arith in ap (λ p. numbers_from number p others) same
  numbers-append place (run ∷ runs) others =
      let long : length (joined (run ∷ runs)) ≡ length run + length (joined runs) = length-append run (joined runs) in
      let same : place + length run + length (joined runs) ≡ place + length (joined (run ∷ runs)) = omega (arith, long) in
      ap (λ ns. number place (length run) ∷ ns)
      (numbers-append (place + length run) runs others ∙ ap (λ p. numbers_from number (place + length run) runs ++ numbers_from number p others) same)

-- a room that is a list and then what it was is the list at its front
pub at_front-fits : (room xs now : List ℤ) (n : ℕ) → n ≡ length xs → n ≤ length room → take n now ≡ xs → drop n now ≡ drop n room → at_front room xs ≡ Ok now
at_front-fits room xs now n many fits front behind =
    ap (λ b. fault_if b (fault LengthMismatch) (Ok (xs ++ drop (length xs) room))) (le-ltb (length room) (length xs) (omega (arith, many, fits)))
    ∙ ap (λ m. Ok (xs ++ drop m room)) (sym many) ∙ (λ i. Ok (sym front i ++ sym behind i)) ∙ ap Ok (take-append-drop n now)
