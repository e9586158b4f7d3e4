-- Calls on keys into a room.
-- Source: this library's orders, ranks and sorts, in its profile of calls for callers of another language.
use Rattle.std.specs.Prelude.{ℤ, List, Result}
use Rattle.c_calls.specs.Calls.{in_limit}
use Rattle.cvl_base.specs.declared.fault.Fault.{Fault}
use Rattle.cvl_base.specs.Elementwise.{if_as_long}

-- the call, if there are at most 2,147,483,647 keys and the room is as long
abbrev pub by_keys : List ℤ → List ℤ → Result (List ℤ) Fault → Result (List ℤ) Fault
by_keys keys room call = in_limit keys (if_as_long keys room call)
