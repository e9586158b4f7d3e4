-- What a worker of a single-pass scan does: its step in each of its states, and the state that follows on the step's answer.
-- Source: the decoupled look-back of Merrill and Garland, Single-pass Parallel Prefix Scan with Decoupled Look-back, 2016. That a worker
-- adds up a tile of which nothing is told yet, instead of waiting for it, is this library's profile.
use Rattle.std.specs.Prelude.{ℕ, zero, suc, Bool, true, Option, Some, None}
use Rattle.cvl_base.specs.SegmentMonoid.{seg_unit, seg_join}
use Rattle.status_word.specs.declared.status.Status.{Status}
use Rattle.status_word.specs.declared.status.Status.TheVariants.{Silent, Sum, Prefix}
use Rattle.status_word.specs.declared.action.Action.{Action}
use Rattle.status_word.specs.declared.action.Action.TheVariants.{Claim, Look, TellSum, TellPrefix}
use Rattle.status_word.specs.declared.action.Answer.{Answer}
use Rattle.status_word.specs.declared.action.Answer.TheVariants.{Tile, Done, Saw, Told}
use Rattle.status_word.specs.declared.local.Local.{Local}
use Rattle.status_word.specs.declared.local.Local.TheVariants.{Ready, Summing, Looking, Helping, Publishing, Stopped}

-- the step of each state
abbrev pub action_of : {Item : Type 0} → Local Item → Option (Action Item)
action_of Ready = Some Claim
action_of (Summing t) = Some (TellSum t)
action_of (Looking t at after) = Some (Look at)
action_of (Helping t at after) = Some (TellSum at)
action_of (Publishing t before) = Some (TellPrefix t before)
action_of Stopped = None

-- the tiles from `at` to before t are added up: those before `at` come next; if there are none, the prefix of t is known
abbrev pub added_up_to : {Item : Type 0} → ℕ → ℕ → Bool × Item → Local Item
added_up_to t zero sum = Publishing t sum
added_up_to t (suc at) sum = Looking t at sum

-- what was seen of tile `at`, before the sum of the tiles after it
abbrev pub after_look : {Item : Type 0} → (Item → Item → Item) → ℕ → ℕ → Bool × Item → Status Item → Local Item
after_look join t at after Silent = Helping t at after
after_look join t at after (Sum starts value) = added_up_to t at (seg_join join (starts, value) after)
after_look join t at after (Prefix starts value) = Publishing t (seg_join join (starts, value) after)

-- the state that follows on an answer; an answer to another step changes nothing
abbrev pub next_of : {Item : Type 0} → (Item → Item → Item) → Item → Local Item → Answer Item → Local Item
next_of join unit Ready (Tile t) = Summing t
next_of join unit Ready Done = Stopped
next_of join unit (Summing t) (Told sum) = added_up_to t t (seg_unit unit)
next_of join unit (Looking t at after) (Saw status) = after_look join t at after status
next_of join unit (Helping t at after) (Told sum) = added_up_to t at (seg_join join sum after)
next_of join unit (Publishing t before) (Told sum) = Ready
next_of join unit local answer = local

-- the value that a state holds is an item
abbrev pub holds_item : {Item : Type 0} → (Item → Bool) → Local Item → Bool
holds_item is_item (Looking t at after) = is_item after.1
holds_item is_item (Helping t at after) = is_item after.1
holds_item is_item (Publishing t before) = is_item before.1
holds_item is_item local = true

-- whether a status holds an item, or nothing
abbrev pub is_item_status : {Item : Type 0} → (Item → Bool) → Status Item → Bool
is_item_status is_item Silent = true
is_item_status is_item (Sum starts value) = is_item value
is_item_status is_item (Prefix starts value) = is_item value

-- the value that an answer tells is an item
abbrev pub tells_item : {Item : Type 0} → (Item → Bool) → Answer Item → Bool
tells_item is_item (Saw status) = is_item_status is_item status
tells_item is_item (Told sum) = is_item sum.1
tells_item is_item answer = true
