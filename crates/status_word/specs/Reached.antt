-- The worlds that steps of the workers reach from a new one, and what each step needs.
-- Source: the decoupled look-back of Merrill and Garland, Single-pass Parallel Prefix Scan with Decoupled Look-back, 2016, as an
-- interleaving of atomic steps.
use Rattle.std.specs.Prelude.{◌≡◌, ℕ, ◌<◌, ◌≤◌, ◌^◌, Bool, List, length, IsTrue, Option, Some, None}
use Rattle.std.specs.List.{All, AllPass}
use Rattle.cvl_base.specs.Limits.{most_elements}
use Rattle.cvl_base.specs.SegmentMonoid.{is_seg_item}
use Rattle.status_word.specs.declared.action.Action.{Action}
use Rattle.status_word.specs.declared.action.Action.TheVariants.{Claim, Look, TellSum, TellPrefix}
use Rattle.status_word.specs.declared.local.Local.{Local}
use Rattle.status_word.specs.declared.world.Stepped.{Stepped}
use Rattle.status_word.specs.declared.world.Stepped.TheVariants.{Took, Idle}
use Rattle.cvl_base.specs.TileSums.{own_sum}
use Rattle.status_word.specs.Codings.{Coding}
use Rattle.status_word.specs.Locals.{action_of}
use Rattle.status_word.specs.Worlds.{Scene, new_scene, scene_after}

-- a worker takes the step of its state, or is idle if it has stopped
abbrev pub stepped_by : {Item : Type 0} → Option (Action Item) → Stepped Item
stepped_by None = Idle
stepped_by (Some action) = Took action

-- what a worker's step is in its state
abbrev pub stepped_of : {Item : Type 0} → Local Item → Stepped Item
stepped_of local = stepped_by (action_of local)

-- a step's answer is found among the sums and the words
abbrev pub CanAnswer : {Item : Type 0} → List (Bool × Item) → List ℕ → Action Item → Type 0
CanAnswer sums words Claim = length sums ≤ most_elements
CanAnswer sums words (Look at) = at < length words
CanAnswer sums words (TellSum t) = t < length sums
CanAnswer sums words (TellPrefix t prior) = t < length sums

-- a step's word is there, and what is told are items
abbrev pub CanTell : {Item : Type 0} → (Item → Bool) → Coding Item → List (Bool × Item) → List ℕ → Action Item → Type 0
CanTell is_item m sums words Claim = Unit {0}
CanTell is_item m sums words (Look at) = Unit {0}
CanTell is_item m sums words (TellSum t) = (t < length sums) × (t < length words) × IsTrue (is_item (own_sum m.unit sums t).1)
CanTell is_item m sums words (TellPrefix t prior) = (t < length sums) × (t < length words) × IsTrue (is_item (own_sum m.unit sums t).1)
    × IsTrue (is_item prior.1)

-- a world that some list of its workers reaches from a new one
pub record IsReached {Item : Type 0} (is_item : Item → Bool) (m : Coding Item) (w : Scene Item) : Type 0 where
  pub few : length w.sums ≤ most_elements
  pub workers : length w.locals < 2 ^ 32
  pub items : AllPass (is_seg_item is_item) w.sums
  pub actors : List ℕ
  pub of_them : All (λ a. a < length w.locals) actors
  pub reached : w ≡ scene_after m (new_scene w.sums (length w.locals)) actors
