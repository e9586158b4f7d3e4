-- The pieces of a crew that was given each tile, where a tile has one place.
use Rattle.std.proofs.Common.{◌≡◌, refl, sym, ◌∙◌, subst, ℕ, ◌<◌, ◌≤◌, Bool, IsTrue, List, [], ◌∷◌, length, arith}
use Rattle.std.specs.List.{All, Any}
use Rattle.std.proofs.lemmas.Grind.{div_ceil_times}
use Rattle.crew.specs.Pieces.{ArePiecesOf}
use Rattle.tile_plan.specs.Pieces.{AreAllPieces}
use Rattle.tile_plan.specs.Ranges.{length_of, tile_count}

pub some_done : {Seat : Type 0} (is_done : Seat → Bool) (seats : List Seat) → 1 ≤ length seats → All (λ seat. IsTrue (is_done seat)) seats → Any (λ seat. IsTrue (is_done seat)) seats
some_done is_done [] some done = absurd (omega (arith, some))
some_done is_done (seat ∷ seats) some done = (0, seat, omega arith, refl, done 0 seat (omega arith))

one_count : (n : ℕ) → tile_count n 1 ≡ n
one_count n = let up = div_ceil_times n 1 (omega arith) in omega (arith, up.0, up.1)

one_long : (n t : ℕ) → t < n → 1 ≡ length_of n 1 t
one_long n t below = omega (arith, below)

module _ {T : Type 0} (len tile n : ℕ) (items : ℕ → List T) (given : ℕ → ℕ) (pieces : List (ℕ × List T)) where
  pub all_given : len ≡ n → tile ≡ 1 → ArePiecesOf n items given pieces → ((t : ℕ) → t < n → given t ≡ 1) → ((t : ℕ) → t < n → length (items t) ≡ 1)
      → (ArePiecesOf (tile_count n 1) items given pieces → ((t : ℕ) → t < tile_count n 1 → given t ≡ 1)
      → ((t : ℕ) → t < tile_count n 1 → length (items t) ≡ length_of n 1 t) → AreAllPieces n 1 pieces)
      → AreAllPieces len tile pieces
  all_given same one all once lengths law =
      let count = one_count n in
      let whole : AreAllPieces n 1 pieces = law
      (subst (λ m. ArePiecesOf m items given pieces) (sym count) all)
      (λ t below. once t (omega (arith, below, count)))
      (λ t below. let within : t < n = omega (arith, below, count) in lengths t within ∙ one_long n t within) in
      subst (λ l. AreAllPieces l tile pieces) (sym same) (subst (λ w. AreAllPieces n w pieces) (sym one) whole)
