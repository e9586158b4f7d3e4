-- The world of workers: a claim word, a word for each tile, and the state of each worker. One step of one worker is its row of the table of
-- states: one atomic step on one word.
-- Source: the decoupled look-back of Merrill and Garland, Single-pass Parallel Prefix Scan with Decoupled Look-back, 2016, as an
-- interleaving of atomic steps.
use Rattle.std.specs.Prelude.{◌≡◌, ℕ, zero, suc, ◌+◌, ◌-◌, ◌*◌, ◌<◌, ◌≤◌, max, Bool, List, [], ◌∷◌, length, nat_lt, if◌then◌else◌}
use Rattle.std.specs.Prelude.{slice_index, slice_index_or, slice_set, replicate, Option, Some, None}
use Rattle.std.specs.List.{sum_by}
use Rattle.cvl_base.specs.SegmentMonoid.{seg_join}
use Rattle.status_word.specs.declared.status.Status.{Status}
use Rattle.status_word.specs.declared.status.Status.TheVariants.{Sum, Prefix}
use Rattle.status_word.specs.declared.action.Action.{Action}
use Rattle.status_word.specs.declared.action.Action.TheVariants.{Claim, Look, TellSum, TellPrefix}
use Rattle.status_word.specs.declared.action.Answer.{Answer}
use Rattle.status_word.specs.declared.action.Answer.TheVariants.{Tile, Done, Saw, Told}
use Rattle.status_word.specs.declared.local.Local.{Local}
use Rattle.status_word.specs.declared.local.Local.TheVariants.{Ready, Summing, Looking, Helping, Publishing, Stopped}
use Rattle.cvl_base.specs.TileSums.{own_sum, before_tile, between_tiles}
use Rattle.status_word.specs.Codings.{Coding, code}
use Rattle.status_word.specs.Locals.{action_of, next_of}
use Rattle.status_word.specs.declared.pass.Pass.{Pass}
use Rattle.status_word.specs.Hands.{times}
use Rattle.status_word.specs.Passes.{new_pass, given_tile, told_done, looked, told_state, IsRuleKept}
use Rattle.status_word.specs.Words.{state_of}

-- a world: each tile's sum, the claim word, the word of each tile, and the state of each worker
pub record Scene (Item : Type 0) : Type 0 where
  pub sums : List (Bool × Item)
  pub claims : ℕ
  pub words : List ℕ
  pub locals : List (Local Item)

-- the world before any step: all words are 0, and each worker is Ready
abbrev pub new_scene : {Item : Type 0} → List (Bool × Item) → ℕ → Scene Item
new_scene sums actors = record { sums = sums; claims = 0; words = replicate (length sums) 0; locals = replicate actors Ready }

-- the state of a worker; one that is not there is Stopped
abbrev pub local_at : {Item : Type 0} → Scene Item → ℕ → Local Item
local_at w actor = slice_index_or w.locals actor Stopped

-- the claim word after an action
abbrev pub claims_after : {Item : Type 0} → ℕ → Action Item → ℕ
claims_after claims Claim = claims + 1
claims_after claims action = claims

module _ {Item : Type 0} (m : Coding Item) where
  -- a claim takes the number in the claim word, and a look reads a word; both tells answer the tile's sum
  abbrev pub answer_of : List (Bool × Item) → ℕ → List ℕ → Action Item → Answer Item
  answer_of sums claims words Claim = if nat_lt claims (length sums) then Tile claims else Done
  answer_of sums claims words (Look at) = Saw (m.read (slice_index words at))
  answer_of sums claims words (TellSum t) = Told (own_sum m.unit sums t)
  answer_of sums claims words (TellPrefix t prior) = Told (own_sum m.unit sums t)

  -- the sum of a tile as a status
  abbrev pub as_sum : Bool × Item → Status Item
  as_sum sum = Sum sum.0 sum.1

  -- the prefix of a tile as a status
  abbrev pub as_prefix : Bool × Item → Status Item
  as_prefix sum = Prefix sum.0 sum.1

  -- both tells leave the greater of the two words
  abbrev pub words_after : List (Bool × Item) → List ℕ → Action Item → List ℕ
  words_after sums words (TellSum t) = slice_set words t (max (slice_index words t) (m.pack (as_sum (own_sum m.unit sums t))))
  words_after sums words (TellPrefix t prior) = slice_set words t
      (max (slice_index words t) (m.pack (as_prefix (seg_join m.join prior (own_sum m.unit sums t)))))
  words_after sums words action = words

  -- the step of a worker in the state `local`
  abbrev pub acted : Scene Item → ℕ → Local Item → Option (Action Item) → Scene Item
  acted w actor local None = w
  acted w actor local (Some action) = record {
    sums = w.sums;
    claims = claims_after w.claims action;
    words = words_after w.sums w.words action;
    locals = slice_set w.locals actor (next_of m.join m.unit local (answer_of w.sums w.claims w.words action));
  }

  -- the world after one step of a worker
  abbrev pub step_of : Scene Item → ℕ → Scene Item
  step_of w actor = acted w actor (local_at w actor) (action_of (local_at w actor))

  -- the world after a step of each of these workers in turn
  abbrev pub scene_after : Scene Item → List ℕ → Scene Item
  scene_after w [] = w
  scene_after w (actor ∷ actors) = scene_after (step_of w actor) actors

  -- what a step adds to the pass of the worker that takes it
  abbrev pub pass_after : Pass Item → Action Item → Answer Item → Pass Item
  pass_after p Claim (Tile t) = given_tile p t
  pass_after p Claim Done = told_done p
  pass_after p (Look at) (Saw status) = looked p at (state_of status)
  pass_after p (TellSum t) (Told sum) = told_state p t 1
  pass_after p (TellPrefix t prior) (Told sum) = told_state p t 2
  pass_after p action answer = p

  -- the passes after a worker's action
  abbrev pub passed : Scene Item → ℕ → List (Pass Item) → Option (Action Item) → List (Pass Item)
  passed w actor passes None = passes
  passed w actor passes (Some action) = slice_set passes actor
      (pass_after (slice_index_or passes actor (new_pass w.sums)) action (answer_of w.sums w.claims w.words action))

  -- the passes of the workers after a list of them took their steps
  abbrev pub passes_of : Scene Item → List (Pass Item) → List ℕ → List (Pass Item)
  passes_of w passes [] = passes
  passes_of w passes (actor ∷ actors) = passes_of (step_of w actor) (passed w actor passes (action_of (local_at w actor))) actors

-- at most how many steps a worker still takes on the tile that it has
abbrev pub left_of_local : {Item : Type 0} → Local Item → ℕ
left_of_local Ready = 1
left_of_local (Summing t) = 3 + 2 * t
left_of_local (Looking t at after) = 4 + 2 * at
left_of_local (Helping t at after) = 3 + 2 * at
left_of_local (Publishing t prior) = 2
left_of_local Stopped = 0

-- the same for `count` tiles from tile t on
abbrev pub left_of_tiles : ℕ → ℕ → ℕ
left_of_tiles t zero = 0
left_of_tiles t (suc count) = 3 + 2 * t + left_of_tiles (t + 1) count

-- at most how many steps are left in a world
abbrev pub left_of : {Item : Type 0} → Scene Item → ℕ
left_of w = left_of_tiles w.claims (length w.sums - w.claims) + sum_by left_of_local w.locals

-- whether a worker takes a step, and how many steps a list of workers takes
abbrev pub takes : {Item : Type 0} → Local Item → ℕ
takes Stopped = 0
takes local = 1

-- how many of these workers' steps do something
abbrev pub steps_of : {Item : Type 0} → Coding Item → Scene Item → List ℕ → ℕ
steps_of m w [] = 0
steps_of m w (actor ∷ actors) = takes (local_at w actor) + steps_of m (step_of m w actor) actors

-- a step taken leaves fewer, by at least one
abbrev pub LowersBy : {Item : Type 0} → Coding Item → Scene Item → ℕ → Type 0
LowersBy m w actor = takes (local_at w actor) + left_of (step_of m w actor) ≤ left_of w

-- each step that does something leaves at least one fewer
abbrev pub RunLowers : {Item : Type 0} → Coding Item → Scene Item → List ℕ → Type 0
RunLowers m w actors = steps_of m w actors + left_of (scene_after m w actors) ≤ left_of w

-- the tile that a worker holds
abbrev pub tiles_held : {Item : Type 0} → Local Item → List ℕ
tiles_held Ready = []
tiles_held (Summing t) = t ∷ []
tiles_held (Looking t at after) = t ∷ []
tiles_held (Helping t at after) = t ∷ []
tiles_held (Publishing t prior) = t ∷ []
tiles_held Stopped = []

-- what a state holds is right: its tiles are tiles, and its sum is that of the tiles it stands for
abbrev pub IsRight : {Item : Type 0} → Coding Item → List (Bool × Item) → Local Item → Type 0
IsRight m sums Ready = Unit {0}
IsRight m sums (Summing t) = t < length sums
IsRight m sums (Looking t at after) = (t < length sums) × (at < t) × (after ≡ between_tiles m.join m.unit sums (at + 1) t)
IsRight m sums (Helping t at after) = (t < length sums) × (at < t) × (after ≡ between_tiles m.join m.unit sums (at + 1) t)
IsRight m sums (Publishing t prior) = (t < length sums) × (prior ≡ before_tile m.join m.unit sums t)
IsRight m sums Stopped = Unit {0}

-- how many workers hold tile t
abbrev pub holders : {Item : Type 0} → Scene Item → ℕ → ℕ
holders w t = sum_by (λ l. times t (tiles_held l)) w.locals

-- the word of a tile
abbrev pub word_at : {Item : Type 0} → Scene Item → ℕ → ℕ
word_at w t = slice_index w.words t

-- What is true of a world and of its workers' passes, whatever steps they took since it was new.
pub record IsWorld {Item : Type 0} (m : Coding Item) (sums : List (Bool × Item)) (workers : ℕ) (w : Scene Item)
    (passes : List (Pass Item)) : Type 0 where
  pub same_sums : w.sums ≡ sums
  pub as_many_words : length w.words ≡ length sums
  pub as_many_locals : length w.locals ≡ workers
  -- each word is lawful at its tile: it is that of one of the states
  pub lawful : (t : ℕ) → t < length sums → (rank : ℕ) × (word_at w t ≡ code m sums t rank)
  pub right : (a : ℕ) → a < workers → IsRight m sums (local_at w a)
  -- the tiles held are distinct and claimed
  pub apart : (t : ℕ) → holders w t ≤ 1
  pub claimed : (t : ℕ) → 0 < holders w t → (t < w.claims) × (t < length sums)
  -- each tile that is claimed and that nobody holds has its prefix
  pub prefixes : (t : ℕ) → t < w.claims → t < length sums → holders w t ≡ 0 → word_at w t ≡ code m sums t 2
  -- so all tiles have theirs once all workers have stopped
  pub ended : 1 ≤ workers → ((a : ℕ) → a < workers → local_at w a ≡ Stopped) → (t : ℕ) → t < length sums → word_at w t ≡ code m sums t 2
  -- what the workers did, each as a pass of share 1, keeps the scan board's rule
  pub passed_on : IsRuleKept (code m sums) sums workers w.claims (word_at w) passes
  pub one_pass_each : length passes ≡ workers

-- the same of a new world in which these workers took their steps, one after another
abbrev pub IsWorldAfter : {Item : Type 0} → Coding Item → List (Bool × Item) → ℕ → List ℕ → Type 0
IsWorldAfter m sums workers actors =
    IsWorld m sums workers (scene_after m (new_scene sums workers) actors)
    (passes_of m (new_scene sums workers) (replicate workers (new_pass sums)) actors)
