-- The rule of a scan board's table: the words of the tiles, then the claim word, and the pass of each seat; and what each step shows.
-- Source: the bookkeeping behind Merrill and Garland's decoupled look-back, 2016.
use Rattle.std.specs.Prelude.{◌≡◌, ℕ, ◌+◌, ◌≤◌, Bool, List, length, slice_index}
use Rattle.atomic_table.specs.Table.{State, Me, Step}
use Rattle.status_word.specs.declared.pass.Pass.{Pass}
use Rattle.status_word.specs.Codings.{Coding, code}
use Rattle.status_word.specs.Passes.{IsRuleKept, known_at, looked, told_state}

-- the rule of the passes holds of the tiles' words and the claim word, which stands after them
pub record IsRuled {Item : Type 0} (m : Coding Item) (sums : List (Bool × Item)) (workers : ℕ)
    (s : State (Unit {0}) (Pass Item)) : Type 0 where
  pub long : length s.words ≡ length sums + 1
  pub kept : IsRuleKept (code m sums) sums workers (slice_index s.words (length sums)) (slice_index s.words) s.views

-- the pass of a seat, and the slots that it holds; a scan board has none
abbrev pub PassOf : Type 0 → Type 0
PassOf Item = Me (Unit {0}) (Pass Item)

-- a look that found a word: that of a state which is not below what this seat knew
abbrev pub LookGives : {Item : Type 0} → Coding Item → Step (Unit {0}) → PassOf Item → ℕ → PassOf Item → Type 0
LookGives m s me found after =
    (rank : ℕ) × (found ≡ code m me.0.sums s.word rank) × (rank ≤ 2) × (known_at s.word me.0 ≤ rank)
    × (after ≡ (looked me.0 s.word rank, me.1))

-- a state that was published
abbrev pub TellGives : {Item : Type 0} → ℕ → Step (Unit {0}) → PassOf Item → ℕ → PassOf Item → Type 0
TellGives rank s me found after = after ≡ (told_state me.0 s.word rank, me.1)
