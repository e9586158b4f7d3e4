-- The answer to a worker's claim, by the tiles that were given to the worker, the newest first, and whether an earlier claim has answered
-- that none is left; and what is true of all claims. Boards differ in the passes of their workers, each of which has a hand.
-- Source: the tile counter of Merrill and Garland, Single-pass Parallel Prefix Scan with Decoupled Look-back, 2016.
use Rattle.std.specs.Prelude.{◌≡◌, ℕ, ◌<◌, ◌≤◌, Bool, true, false, IsTrue, List, ◌∷◌, nat_lt, if◌then◌else◌}
use Rattle.std.specs.List.{Any, sum_by}
use Rattle.status_word.specs.declared.pass.Hand.{Hand}
use Rattle.status_word.specs.Hands.{hand_done, hand_given, times}
use Rattle.least_boards.specs.declared.claim.Claim.{Claim}
use Rattle.least_boards.specs.declared.claim.Claim.TheVariants.{Tile, Done}
use Rattle.least_boards.specs.Seats.{Seated, with_pass}

-- a new one of `count` tiles is given, to a worker that had no answer Done; or the answer is Done, and no tile is given
abbrev pub Claims : ℕ → Claim → List ℕ → List ℕ → Bool → Bool → Type 0
Claims count (Tile t) given given_after done done_after =
    (t < count) × (times t given ≡ 0) × (done ≡ false) × (given_after ≡ t ∷ given) × (done_after ≡ false)
Claims count Done given given_after done done_after = (given_after ≡ given) × (done_after ≡ true)

-- the answer to a claim before which there were so many claims
abbrev pub answer_at : ℕ → ℕ → Claim
answer_at count claims = if nat_lt claims count then Tile claims else Done

-- whether it says that no tile is left
abbrev pub is_last : Claim → Bool
is_last (Tile t) = false
is_last Done = true

-- what a claim answered this seat
abbrev pub IsClaim : {P : Type 0} → (P → Hand) → ℕ → Claim → Seated P → Seated P → Type 0
IsClaim hand tiles answer old new = Claims tiles answer (hand old.pass).given (hand new.pass).given old.is_done new.is_done

-- the seat after the answer to a claim; only the first answer that no tile is left is marked
abbrev pub after_answer : {P : Type 0} → ((Hand → Hand) → P → P) → Seated P → Claim → Seated P
after_answer on_hand seat (Tile t) = with_pass seat (on_hand (λ h. hand_given h t) seat.pass)
after_answer on_hand seat Done =
    if seat.is_done then seat else record { id = seat.id; pass = on_hand hand_done seat.pass; is_done = true }

-- no tile was given twice, and if a claim has answered that none is left, all were given
pub record AreGivenOnce {P : Type 0} (hand : P → Hand) (tiles : ℕ) (seats : List (Seated P)) : Type 0 where
  pub distinct : (t : ℕ) → sum_by (λ s. times t (hand s.pass).given) seats ≤ 1
  pub every : Any (λ s. IsTrue s.is_done) seats → (t : ℕ) → t < tiles → sum_by (λ s. times t (hand s.pass).given) seats ≡ 1
