-- A seat at any board, as plain data.
-- Source: the workers of Merrill and Garland, Single-pass Parallel Prefix Scan with Decoupled Look-back, 2016.
use Rattle.std.specs.Prelude.{◌≡◌, ℕ, ◌-◌, ◌≤◌, Bool, false}
use Rattle.atomic_table.specs.Seated.{TableId}
use Rattle.atomic_table.specs.Table.{Splits, State}
use Rattle.status_word.specs.declared.pass.Hand.{Hand}
use Rattle.status_word.specs.Hands.{new_hand}

-- at which board the seat is, what its worker did, and whether a claim has answered that no tile is left
pub record Seated (P : Type 0) : Type 0 where
  pub id : TableId
  pub pass : P
  pub is_done : Bool

-- the seat whose worker took a step
abbrev pub with_pass : {P : Type 0} → Seated P → P → Seated P
with_pass seat pass = record { id = seat.id; pass = pass; is_done = seat.is_done }

-- the seat of a worker that did nothing yet, with this pass
abbrev pub idle_seat : {P : Type 0} → TableId → P → Seated P
idle_seat id pass = record { id = id; pass = pass; is_done = false }

-- A pass that stands for so many workers, none of which did anything yet: the pass of each of them can be cut from it, one by one, and each
-- cut keeps the board's rule.
pub record StandsFor {P : Type 0} (hand : P → Hand) (left right : P → P) (holds : State (Unit {0}) P → Type 0) (whole : P) (workers : ℕ)
    : Type 0 where
  -- the pass that stands for some of the workers
  pub some : ℕ → P
  pub all : whole ≡ some workers
  pub fewer : (n : ℕ) → left (some n) ≡ some (n - 1)
  pub one : (n : ℕ) → right (some n) ≡ some 1
  pub idle : hand (some 1) ≡ new_hand 1
  pub keeps : (n id : ℕ) → 2 ≤ n → Splits holds id (some n) (left (some n)) (right (some n))
