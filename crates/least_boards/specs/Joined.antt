-- What one pass that stands for several seats has of them, and what is left: for the passes of any board, and for a least board's.
-- Source: the bookkeeping behind Merrill and Garland's decoupled look-back, 2016.
use Rattle.std.specs.Prelude.{◌≡◌, ℕ, ◌+◌, min, List, [], ◌∷◌, ◌++◌, length, if◌then◌else◌}
use Rattle.std.specs.List.{count_by, sum_by}
use Rattle.status_word.specs.declared.pass.Hand.{Hand}
use Rattle.status_word.specs.Hands.{hands_joined, times}
use Rattle.least_boards.specs.declared.least_pass.LeastPass.{LeastPass}
use Rattle.least_boards.specs.LeastPasses.{lowered_in, lowest_of, seen_in}
use Rattle.least_boards.specs.Seats.{Seated}

-- this hand and those of the seats that are left have what all seats were given
pub record AreHandsJoined {P : Type 0} (hand : P → Hand) (whole : P) (rest all : List (Seated P)) : Type 0 where
  pub given : (t : ℕ) → times t (hand whole).given + sum_by (λ s. times t (hand s.pass).given) rest
      ≡ sum_by (λ s. times t (hand s.pass).given) all
  pub count : length (hand whole).given + sum_by (λ s. length (hand s.pass).given) rest ≡ sum_by (λ s. length (hand s.pass).given) all
  pub done : (hand whole).done + count_by (λ s. s.is_done) rest ≡ count_by (λ s. s.is_done) all
  pub shares : (hand whole).share + length rest ≡ length all

-- the marks of a pass, where its seat has one if a claim has answered that no tile is left
abbrev pub IsSeatPass : {P : Type 0} → (P → Hand) → Seated P → P → Type 0
IsSeatPass hand s p = (p ≡ s.pass) × ((hand p).share ≡ 1) × ((hand p).done ≡ (if s.is_done then 1 else 0))

-- what one pass has that takes in the passes of seats, one by one from the last one on: it begins as the last one's, and takes in one more
pub record Gathers {P : Type 0} (hand : P → Hand) (both : P → P → P) (AreJoined : P → List (Seated P) → List (Seated P) → Type 0)
    : Type 0 where
  pub hands : (p q : P) → hand (both p q) ≡ hands_joined (hand p) (hand q)
  pub first : (seats rest : List (Seated P)) (last : Seated P) (p : P) → seats ≡ rest ++ last ∷ [] → IsSeatPass hand last p
      → AreJoined p rest seats
  pub more : (seats rest all : List (Seated P)) (next : Seated P) (p whole now : P) → seats ≡ rest ++ next ∷ []
      → IsSeatPass hand next p → now ≡ both whole p → AreJoined whole seats all → AreJoined now rest all

-- this pass and the seats that are left have done what all seats of a least board did
pub record AreLeastsJoined (whole : LeastPass) (rest all : List (Seated LeastPass)) : Type 0 where
  pub hands : AreHandsJoined (λ p. p.hand) whole rest all
  pub lowered : (s : ℕ) → min (lowered_in s whole) (lowest_of (λ seat. lowered_in s seat.pass) rest)
      ≡ lowest_of (λ seat. lowered_in s seat.pass) all
  pub seen : (s : ℕ) → min (seen_in s whole) (lowest_of (λ seat. seen_in s seat.pass) rest)
      ≡ lowest_of (λ seat. seen_in s seat.pass) all
