-- The rule of a least board's table: the words of the slots, then the claim word, and the pass of each seat; and what each step shows.
-- Source: the priority write of a parallel machine with concurrent writes, by which the least of all writers of a cell wins.
use Rattle.std.specs.Prelude.{◌≡◌, ℕ, ◌+◌, ◌<◌, ◌≤◌, ◌⊎◌, List, [], length, slice_index, slice_index_or, Option, Some, None}
use Rattle.std.specs.List.{All}
use Rattle.atomic_table.specs.Table.{State, Me, Step}
use Rattle.status_word.specs.Hands.{AreDealt}
use Rattle.least_boards.specs.declared.least_pass.LeastPass.{LeastPass}
use Rattle.least_boards.specs.declared.least_pass.Low.{Low}
use Rattle.least_boards.specs.LeastPasses.{known_in, lowered_in, lowest_of, no_place, place_lowered, place_seen, seen_in}

-- the place that was lowered is in that slot
abbrev pub IsPlaced : List (Option ℕ) → Low → Type 0
IsPlaced targets low = slice_index_or targets low.place None ≡ Some low.slot

-- the number is no place, or a place of that slot
abbrev pub IsOfSlot : List (Option ℕ) → ℕ → ℕ → Type 0
IsOfSlot targets slot n = (n ≡ no_place) ⊎ (slice_index_or targets n None ≡ Some slot)

-- What one pass keeps besides its hand: with a share it has the board's targets and tiles, and without one it is empty; and each place that
-- it lowered has that slot.
pub record IsLeastFair (targets : List (Option ℕ)) (tiles : ℕ) (p : LeastPass) : Type 0 where
  pub board : 1 ≤ p.hand.share → (p.targets ≡ targets) × (p.tiles ≡ tiles)
  pub empty : p.hand.share ≡ 0 → (p.lowered ≡ []) × (p.seen ≡ [])
  pub placed : All (IsPlaced targets) p.lowered

-- The rule of a least board, over the claim word, the word of each slot and all passes.
pub record IsLeastKept (targets : List (Option ℕ)) (slots tiles workers claims : ℕ) (word : ℕ → ℕ) (passes : List LeastPass) : Type 0 where
  -- each word is the least place that any pass lowered there, or no place
  pub words : (s : ℕ) → s < slots → word s ≡ lowest_of (lowered_in s) passes
  -- no pass saw a lesser one
  pub seen : (s : ℕ) → lowest_of (lowered_in s) passes ≤ lowest_of (seen_in s) passes
  -- the hands keep the rule of all boards
  pub dealt : AreDealt (λ p. p.hand) tiles workers claims passes
  pub fair : All (IsLeastFair targets tiles) passes

-- the rule of the passes holds of the slots' words and the claim word, which stands after them
pub record IsLeastRuled (targets : List (Option ℕ)) (slots tiles workers : ℕ) (s : State (Unit {0}) LeastPass) : Type 0 where
  pub long : length s.words ≡ slots + 1
  pub kept : IsLeastKept targets slots tiles workers (slice_index s.words slots) (slice_index s.words) s.views

-- the pass of a seat, and what it holds of the table's own slots; a least board has none
abbrev pub LeastPassOf : Type 0
LeastPassOf = Me (Unit {0}) LeastPass

-- a place that was lowered
abbrev pub LowerGives : Step (Unit {0}) → LeastPassOf → ℕ → LeastPassOf → Type 0
LowerGives s me found after = after ≡ (place_lowered me.0 s.word s.first, me.1)

-- a word that was read: a place of its slot which is at most what this seat knew, or none
abbrev pub LeastGives : Step (Unit {0}) → LeastPassOf → ℕ → LeastPassOf → Type 0
LeastGives s me found after =
    IsOfSlot me.0.targets s.word found × (found ≤ known_in s.word me.0) × (after ≡ (place_seen me.0 s.word found, me.1))
