-- The tiles given to workers, the workers' shares, and their marks that no tile is left: what the passes of every board have, whatever its
-- words tell.
-- Source: the claim counter of Merrill and Garland, Single-pass Parallel Prefix Scan with Decoupled Look-back, 2016: each claim takes the
-- next number.
use Rattle.std.specs.Prelude.{◌≡◌, ℕ, ◌+◌, ◌-◌, ◌<◌, ◌≤◌, ◌==◌, min, List, [], ◌∷◌, ◌++◌, length, nat_lt, if◌then◌else◌}
use Rattle.std.specs.List.{sum_by}
use mathlib.Core.Option.{some}
use lib.ListN.{get_elem?}
use Rattle.status_word.specs.declared.pass.Hand.{Hand}

-- nothing is given yet
abbrev pub new_hand : ℕ → Hand
new_hand share = record { given = []; done = 0; share = share }

-- one more tile was given
abbrev pub hand_given : Hand → ℕ → Hand
hand_given h t = record h { given = t ∷ h.given }

-- a worker learned that no tile is left
abbrev pub hand_done : Hand → Hand
hand_done h = record h { done = h.done + 1 }

-- one worker's share is dealt out of it
abbrev pub hand_dealt : Hand → Hand
hand_dealt h = record h { share = h.share - 1 }

-- what two hands know together
abbrev pub hands_joined : Hand → Hand → Hand
hands_joined h other = record { given = h.given ++ other.given; done = h.done + other.done; share = h.share + other.share }

-- how often t is among the tiles
abbrev pub times : ℕ → List ℕ → ℕ
times t [] = 0
times t (x ∷ xs) = (if x == t then 1 else 0) + times t xs

-- 1 for the tiles below both the claim word and the number of tiles, 0 for all others
abbrev pub once_claimed : ℕ → ℕ → ℕ → ℕ
once_claimed tiles claims t = if nat_lt t (min claims tiles) then 1 else 0

-- what one hand keeps: no more marks than its share, and without a share no tile
pub record IsFairHand (h : Hand) : Type 0 where
  pub marks : h.done ≤ h.share
  pub empty : h.share ≡ 0 → h.given ≡ []

-- The rule of all boards on the hands of their passes.
pub record AreDealt {P : Type 0} (hand : P → Hand) (tiles workers claims : ℕ) (passes : List P) : Type 0 where
  -- the tiles given are distinct, and are those below both the claim word and the number of tiles
  pub given : (t : ℕ) → sum_by (λ p. times t (hand p).given) passes ≡ once_claimed tiles claims t
  pub count : sum_by (λ p. length (hand p).given) passes ≡ min claims tiles
  -- the claim word counts them and the marks; there is a mark only if all tiles were given
  pub done : sum_by (λ p. (hand p).done) passes ≡ claims - tiles
  pub shares : sum_by (λ p. (hand p).share) passes ≡ workers
  pub fair : (id : ℕ) (p : P) → get_elem? passes id ≡ some p → IsFairHand (hand p)

-- what the hand knows that stands for all workers
pub record IsWhole (tiles claims : ℕ) (h : Hand) : Type 0 where
  pub given : (t : ℕ) → times t h.given ≡ once_claimed tiles claims t
  pub distinct : (t : ℕ) → times t h.given ≤ 1
  pub count : length h.given ≡ min claims tiles
  pub done : h.done ≡ claims - tiles
  -- if any worker was told that no tile is left, all tiles were given
  pub all : 1 ≤ h.done → (t : ℕ) → t < tiles → times t h.given ≡ 1
  pub full : 1 ≤ h.done → length h.given ≡ tiles
