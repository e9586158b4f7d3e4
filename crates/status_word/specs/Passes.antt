-- What each worker of a single-pass scan did, and the rule that all workers together keep.
-- Source: the bookkeeping behind Merrill and Garland's decoupled look-back, 2016: each tile is claimed once, and no status is taken back.
use Rattle.std.specs.Prelude.{◌≡◌, ℕ, ◌+◌, ◌<◌, ◌≤◌, ◌==◌, max, Bool, List, [], ◌∷◌, ◌++◌, length, if◌then◌else◌}
use mathlib.Core.Option.{some}
use lib.ListN.{get_elem?}
use Rattle.std.specs.List.{Contains}
use Rattle.status_word.specs.declared.pass.Mark.{Mark}
use Rattle.status_word.specs.declared.pass.Pass.{Pass}
use Rattle.status_word.specs.Hands.{new_hand, hand_given, hand_done, hand_dealt, hands_joined, AreDealt}
pub use Rattle.status_word.specs.Hands.{times}

-- what is known at first: the board's sums, by one that stands for so many workers
abbrev pub first_pass : {Item : Type 0} → List (Bool × Item) → ℕ → Pass Item
first_pass sums workers = record { sums = sums; hand = new_hand workers; told = []; seen = []; looks = 0 }

-- the pass of one worker that has done nothing
abbrev pub new_pass : {Item : Type 0} → List (Bool × Item) → Pass Item
new_pass sums = first_pass sums 1

-- what is left of a pass that is joined to another
abbrev pub spent_pass : {Item : Type 0} → Pass Item
spent_pass = first_pass [] 0

-- the highest state among the marks of tile t
abbrev pub highest_mark : ℕ → List Mark → ℕ
highest_mark t [] = 0
highest_mark t (mark ∷ marks) = max (if mark.tile == t then mark.rank else 0) (highest_mark t marks)

module _ {Item : Type 0} where
  -- ---- how a pass changes

  -- a claim that gives tile t
  abbrev pub given_tile : Pass Item → ℕ → Pass Item
  given_tile p t = record p { hand = hand_given p.hand t }

  -- a claim when no tile is left
  abbrev pub told_done : Pass Item → Pass Item
  told_done p = record p { hand = hand_done p.hand }

  -- a look at tile t, which was in this state
  abbrev pub looked : Pass Item → ℕ → ℕ → Pass Item
  looked p t rank = record p { seen = record { tile = t; rank = rank; looks = p.looks } ∷ p.seen; looks = p.looks + 1 }

  -- this state of tile t is told
  abbrev pub told_state : Pass Item → ℕ → ℕ → Pass Item
  told_state p t rank = record p { told = record { tile = t; rank = rank; looks = p.looks } ∷ p.told }

  -- a pass of several workers is cut: the new pass stands for one of them
  abbrev pub split_left : Pass Item → Pass Item
  split_left p = record p { hand = hand_dealt p.hand }

  -- the right one of two passes after a split: that of a worker that has done nothing
  abbrev pub split_right : Pass Item → Pass Item
  split_right p = new_pass p.sums

  -- two passes are made one
  abbrev pub passes_joined : Pass Item → Pass Item → Pass Item
  passes_joined p other = record {
    sums = p.sums;
    hand = hands_joined p.hand other.hand;
    told = p.told ++ other.told;
    seen = p.seen ++ other.seen;
    looks = p.looks + other.looks;
  }

  -- ---- what a pass says of tile t

  -- the highest status that a pass published of a tile
  abbrev pub told_at : ℕ → Pass Item → ℕ
  told_at t p = highest_mark t p.told

  -- the highest status that a pass saw of a tile
  abbrev pub seen_at : ℕ → Pass Item → ℕ
  seen_at t p = highest_mark t p.seen

  -- the highest status that a pass published or saw of a tile
  abbrev pub known_at : ℕ → Pass Item → ℕ
  known_at t p = max (told_at t p) (seen_at t p)

  -- this state of the tile was told after so many looks
  abbrev pub WasTold : ℕ → ℕ → ℕ → Pass Item → Type 0
  WasTold t rank looks p = Contains p.told (record { tile = t; rank = rank; looks = looks })

  -- how often a tile was given
  abbrev pub given_at : ℕ → Pass Item → ℕ
  given_at t p = times t p.hand.given

-- the highest of a measure over all passes
abbrev pub highest : {X : Type 0} → (X → ℕ) → List X → ℕ
highest f [] = 0
highest f (x ∷ xs) = max (f x) (highest f xs)

-- what one pass keeps besides its hand: with a share it has the board's sums, and without one it is empty
pub record IsFair {Item : Type 0} (sums : List (Bool × Item)) (p : Pass Item) : Type 0 where
  pub tiles : 1 ≤ p.hand.share → p.sums ≡ sums
  pub empty : p.hand.share ≡ 0 → (p.told ≡ []) × (p.seen ≡ []) × (p.looks ≡ 0)

-- The rule of a scan board, over the claim word, the word of each tile and all passes; `code t r` is the word of state r at tile t.
pub record IsRuleKept {Item : Type 0} (code : ℕ → ℕ → ℕ) (sums : List (Bool × Item)) (workers claims : ℕ) (word : ℕ → ℕ)
    (passes : List (Pass Item)) : Type 0 where
  -- each word is lawful at its tile, and tells the highest state that any pass told
  pub words : (t : ℕ) → t < length sums → word t ≡ code t (highest (told_at t) passes)
  -- which is one of the three
  pub states : (t : ℕ) → highest (told_at t) passes ≤ 2
  -- no pass saw a higher one
  pub seen : (t : ℕ) → highest (seen_at t) passes ≤ highest (told_at t) passes
  -- the hands keep the rule of all boards
  pub dealt : AreDealt (λ p. p.hand) (length sums) workers claims passes
  pub fair : (id : ℕ) (p : Pass Item) → get_elem? passes id ≡ some p → IsFair sums p
