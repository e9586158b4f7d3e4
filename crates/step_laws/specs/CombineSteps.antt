-- The steps of combining permutes, counts and exact sums by place in parts, each by what its export is proved to do.
-- Source: Blelloch's combining send, and his reduce in parts at each place of it.
use Rattle.std.specs.Prelude.{◌≡◌, ℕ, ℤ, pos, ◌+ℤ◌, Bool, List, [], length}
use Rattle.c_calls.specs.Calls.{by_operator, in_limit}
use Rattle.c_calls.specs.declared.status.CvlStatus.{CvlStatus}
use Rattle.c_calls.specs.Numbers.{bool_binary, int_monoid}
use Rattle.c_calls.specs.Told.{RoomTold, Told, done}
use Rattle.combine_parts.specs.Calls.{joined_bools_by, joined_ints_by, own_bool_room_by, own_int_room_by}
use Rattle.combine_parts.specs.CheckedSums.{all_fit, range_sums_of, share_sums_of, sums_or}
use Rattle.combine_parts.specs.Cuts.{are_places_of}
use Rattle.combine_parts.specs.OwnRooms.{OwnTold, own_counts_of, own_room_of}
use Rattle.combine_parts.specs.RoomJoins.{joined_counts_of, joined_share_of}
use Rattle.cvl_base.specs.Scans.{bool_join_of, int_join_of}
use Rattle.exact_combines.specs.ExactCombines.{exact_sums_of}
use Rattle.long_sums.specs.LongSums.{long_sum_of}
use Rattle.long_sums.specs.RoomSums.{all_fitting}
use Rattle.part_calls.specs.CombineRanges.{combine_range_of, counts_range_of, exact_range_of}
use Rattle.step_laws.specs.CombineParts.{Block, OwnAlone, RoomAlone, Share, SumsAlone}

-- ---- rooms of the parts' own, of so many places

-- a part joins its integers in a room of its own
abbrev pub IntJoinsOwn : ℕ → ℕ → Block ℤ ℤ → Block ℤ ℤ → Type 0
IntJoinsOwn op places own left =
    OwnTold places (own_int_room_by op places (length own.own) own.elements own.index) done own.own left.own × OwnAlone own left

-- a part joins its booleans in a room of its own
abbrev pub BoolJoinsOwn : ℕ → ℕ → Block Bool Bool → Block Bool Bool → Type 0
BoolJoinsOwn op places own left =
    OwnTold places (own_bool_room_by op places (length own.own) own.elements own.index) done own.own left.own × OwnAlone own left

-- a part counts its indices in a room of its own
abbrev pub CountsOwn : {X : Type 0} → ℕ → Block X ℤ → Block X ℤ → Type 0
CountsOwn places own left =
    OwnTold places (own_counts_of places (length own.own) own.index) done own.own left.own × OwnAlone own left

-- a part adds up its integers in a room of its own, in 64 bits
abbrev pub SumsOwn : ℕ → Block ℤ ℤ → Block ℤ ℤ → Type 0
SumsOwn places own left =
    OwnTold places (own_room_of ◌+ℤ◌ (pos 0) places (length own.own) own.elements own.index) done own.own left.own × OwnAlone own left

-- a share of integers is joined with the rooms of all parts, whatever it answers
abbrev pub IntJoinsRooms : ℕ → List ℕ → List ℤ → Share ℤ → Share ℤ → Type 0
IntJoinsRooms op boundaries memory own left =
    ((status : CvlStatus) × Told (joined_ints_by op own.from boundaries memory own.room) status own.room left.room) × RoomAlone own left

-- a share of booleans is joined with the rooms of all parts
abbrev pub BoolJoinsRooms : ℕ → List ℕ → List Bool → Share Bool → Share Bool → Type 0
BoolJoinsRooms op boundaries memory own left =
    ((status : CvlStatus) × Told (joined_bools_by op own.from boundaries memory own.room) status own.room left.room) × RoomAlone own left

-- the counts of all parts are added up in a share
abbrev pub JoinsCounts : List ℕ → List ℤ → Share ℤ → Share ℤ → Type 0
JoinsCounts boundaries memory own left =
    ((status : CvlStatus) × Told (joined_counts_of own.from boundaries memory (length own.room)) status own.room left.room)
    × RoomAlone own left

-- the sums of all parts are added to a share of sums
abbrev pub JoinsSums : List ℕ → List ℤ → Share ℤ → Share ℤ → Type 0
JoinsSums boundaries memory own left =
    ((status : CvlStatus) × Told (joined_share_of long_sum_of own.from boundaries memory own.room) status own.room left.room)
    × RoomAlone own left

-- the sums of all parts are added to a share of integers, in memory of its own, and all fit 32 bits
abbrev pub JoinsChecked : List ℕ → List ℤ → Share ℤ → Share ℤ → Type 0
JoinsChecked boundaries memory own left =
    Told (all_fit (share_sums_of own.from boundaries memory own.room (length own.sums))) done tt tt
    × (left.sums ≡ sums_or own.sums (share_sums_of own.from boundaries memory own.room (length own.sums)))
    × SumsAlone own left

-- ---- ranges of the room, whose parts read all elements and indices

-- a part looks whether its indices are places
abbrev pub LooksAtIndices : {X Y : Type 0} → ℕ → Block X Y → Block X Y → Type 0
LooksAtIndices places own left = Told (are_places_of places own.index) done tt tt × (left ≡ own)

-- a range of integers is joined with what is sent there, whatever the part answers and counts
abbrev pub IntJoinsRange : ℕ → List ℤ → List ℤ → Share ℤ → Share ℤ → Type 0
IntJoinsRange op source index own left =
    ((status : CvlStatus) × (before : ℕ) × (now : ℕ)
    × Told (by_operator (int_monoid op) (λ o. combine_range_of (int_join_of o) source index own.from own.room)) status
    (own.room, before) (left.room, now))
    × RoomAlone own left

-- a range of booleans
abbrev pub BoolJoinsRange : ℕ → List Bool → List ℤ → Share Bool → Share Bool → Type 0
BoolJoinsRange op source index own left =
    ((status : CvlStatus) × (before : ℕ) × (now : ℕ)
    × Told (by_operator (bool_binary op) (λ o. combine_range_of (bool_join_of o) source index own.from own.room)) status
    (own.room, before) (left.room, now))
    × RoomAlone own left

-- the indices that name places of a range are counted there
abbrev pub CountsRange : List ℤ → Share ℤ → Share ℤ → Type 0
CountsRange index own left =
    ((status : CvlStatus) × (before : ℕ) × (now : ℕ)
    × Told (counts_range_of index own.from (length own.room)) status (own.room, before) (left.room, now))
    × RoomAlone own left

-- what is sent to a range of sums is added to them, in 64 bits
abbrev pub AddsToRange : List ℤ → List ℤ → Share ℤ → Share ℤ → Type 0
AddsToRange source index own left =
    ((status : CvlStatus) × (before : ℕ) × (now : ℕ)
    × Told (exact_range_of source index own.from own.room) status (own.room, before) (left.room, now))
    × RoomAlone own left

-- what is sent to a range of integers is added to them, in memory of its own, and all sums fit 32 bits
abbrev pub SumsRange : List ℤ → List ℤ → Share ℤ → Share ℤ → Type 0
SumsRange source index own left =
    Told (all_fit (range_sums_of source index own.from own.room (length own.sums))) done tt tt
    × (left.sums ≡ sums_or own.sums (range_sums_of source index own.from own.room (length own.sums)))
    × SumsAlone own left

-- ---- both

-- a share of sums finds that each of them may grow: it is joined with no elements
abbrev pub MayGrow : Share ℤ → Share ℤ → Type 0
MayGrow own left =
    Told (in_limit {X = ℤ} [] (in_limit own.room (exact_sums_of [] [] own.room))) done own.room left.room × RoomAlone own left

-- a share of integers becomes its sums, which fit, whatever it answers
abbrev pub Narrows : Share ℤ → Share ℤ → Type 0
Narrows own left =
    ((status : CvlStatus) × RoomTold (in_limit own.sums (all_fitting 0 own.sums)) status own.room left.room) × RoomAlone own left
