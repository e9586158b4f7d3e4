-- The steps of combining permutes in parts, by the number of an operator.
-- Source: this library's combining permutes, in its profile of calls for callers of another language.
use Rattle.std.specs.Prelude.{ℕ, ℤ, Bool, List, Result}
use Rattle.c_calls.specs.Calls.{by_operator}
use Rattle.c_calls.specs.Numbers.{bool_binary, int_monoid}
use Rattle.combine_parts.specs.OwnRooms.{own_room_of}
use Rattle.combine_parts.specs.RoomJoins.{joined_share_of}
use Rattle.cvl_base.specs.declared.fault.Fault.{Fault}
use Rattle.cvl_base.specs.Scans.{bool_join_of, bool_unit_of, int_join_of, int_unit_of}

-- ---- integers

-- the room of a part
abbrev pub own_int_room_by : ℕ → ℕ → ℕ → List ℤ → List ℤ → Result (List ℤ) Fault
own_int_room_by number places memory source index =
    by_operator (int_monoid number) (λ o. own_room_of (int_join_of o) (int_unit_of o) places memory source index)

-- a share of the room, joined with the rooms of all parts
abbrev pub joined_ints_by : ℕ → ℕ → List ℕ → List ℤ → List ℤ → Result (List ℤ) Fault
joined_ints_by number from boundaries memory before =
    by_operator (int_monoid number) (λ o. joined_share_of (int_join_of o) from boundaries memory before)

-- ---- booleans

-- the room of a part
abbrev pub own_bool_room_by : ℕ → ℕ → ℕ → List Bool → List ℤ → Result (List Bool) Fault
own_bool_room_by number places memory source index =
    by_operator (bool_binary number) (λ o. own_room_of (bool_join_of o) (bool_unit_of o) places memory source index)

-- a share of the room, joined with the rooms of all parts
abbrev pub joined_bools_by : ℕ → ℕ → List ℕ → List Bool → List Bool → Result (List Bool) Fault
joined_bools_by number from boundaries memory before =
    by_operator (bool_binary number) (λ o. joined_share_of (bool_join_of o) from boundaries memory before)
