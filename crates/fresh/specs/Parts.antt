-- A list that is written in runs, in order.
use Rattle.std.specs.Prelude.{◌≡◌, ℕ, ◌+◌, ◌≤◌, List, length, take, drop}
use Rattle.std.proofs.Common.{arith}
use Rattle.std.proofs.lemmas.List.{length-drop, length-take}

-- the n elements from the one at place `first` on
abbrev pub part : {X : Type 0} → List X → ℕ → ℕ → List X
part xs first n = take n (drop first xs)

-- there are as many if the list has these places
pub length_part : {X : Type 0} (xs : List X) (first n : ℕ) → first + n ≤ length xs → length (part xs first n) ≡ n
length_part xs first n within = omega (arith, length-take n (drop first xs), length-drop first xs, within)
