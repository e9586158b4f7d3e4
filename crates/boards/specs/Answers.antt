-- What the calls of a scan board promise.
-- Source: the decoupled look-back of Merrill and Garland, Single-pass Parallel Prefix Scan with Decoupled Look-back, 2016. That a worker
-- adds up a tile of which nothing is published yet, instead of waiting for it, is this library's profile.
use Rattle.std.specs.Prelude.{◌≡◌, ℕ, ◌+◌, ◌-◌, ◌<◌, ◌≤◌, ◌⊎◌, max, Bool, IsTrue, List, length, replicate}
use Rattle.std.specs.List.{Any, sum_by}
use Rattle.status_word.specs.declared.pass.Pass.{Pass}
use Rattle.status_word.specs.Passes.{WasTold, highest, known_at, seen_at, told_at}
use Rattle.boards.specs.Boards.{Board, Seated, new_seat}
use Rattle.least_boards.specs.Claims.{AreGivenOnce}

-- a new board over tiles with these sums, and its seats
pub record IsNew {Item : Type 0} (sums : List (Bool × Item)) (workers : ℕ)
    (board : Board Item) (seats : List (Seated (Pass Item))) : Type 0 where
  pub tiles : board.sums ≡ sums
  pub as_many : board.workers ≡ workers
  pub seats_new : seats ≡ replicate workers (new_seat board)

-- the tile is not among those that were looked at from tile t on
abbrev pub IsOutside : ℕ → ℕ → ℕ → Type 0
IsOutside t looks x = (x < t - looks) ⊎ (t ≤ x)

-- What a look-back from tile t did that looked at so many tiles, in turn towards the first; `old` and `new` are its worker's pass.
pub record IsLookBack {Item : Type 0} (t looks : ℕ) (old new : Pass Item) : Type 0 where
  pub at_most : looks ≤ t
  pub at_least : 1 ≤ t → 1 ≤ looks
  pub counted : new.looks ≡ old.looks + looks
  -- the sum of each tile that it looked at is known afterwards, or more
  pub known : (x : ℕ) → t - looks ≤ x → x < t → 1 ≤ known_at x new
  -- it stopped at a prefix, or at the first tile
  pub met : looks < t → known_at (t - looks) new ≡ 2
  -- and at no prefix before
  pub passed : (x : ℕ) → t - looks < x → x < t → known_at x new < 2
  -- it published sums alone, and of these tiles
  pub told : (x : ℕ) → (told_at x old ≤ told_at x new) × (told_at x new ≤ max (told_at x old) 1)
  pub told_outside : (x : ℕ) → IsOutside t looks x → told_at x new ≡ told_at x old
  -- and nothing that was published before is lost
  pub kept : (x rank when : ℕ) → WasTold x rank when old → WasTold x rank when new
  -- it saw only these tiles
  pub seen : (x : ℕ) → seen_at x old ≤ seen_at x new
  pub seen_outside : (x : ℕ) → IsOutside t looks x → seen_at x new ≡ seen_at x old
  pub hand : new.hand ≡ old.hand
  pub sums : new.sums ≡ old.sums

-- What the seats of a board did in all, once it is closed.
pub record IsEnd {Item : Type 0} (tiles : ℕ) (seats : List (Seated (Pass Item))) (given : ℕ) : Type 0 where
  pub once : AreGivenOnce (λ p. p.hand) tiles seats
  pub counted : given ≡ sum_by (λ s. length s.pass.hand.given) seats
  pub every : Any (λ s. IsTrue s.is_done) seats → given ≡ tiles
  -- no seat saw a higher state of a tile than some seat published
  pub seen : (t : ℕ) → highest (λ s. seen_at t s.pass) seats ≤ highest (λ s. told_at t s.pass) seats
