-- The arguments of a call as values, and the check of their kinds.
-- Source: this library's script format.
use Rattle.std.specs.Prelude.{ℕ, ◌+◌, Bool, false, List, [], ◌∷◌, length, slice_get, ℤ, pos, if◌then◌else◌}
use Rattle.std.specs.Prelude.{Option, Some, None, option_and_then, option_map, unwrap_or}
use Rattle.cvl_base.specs.declared.value.Value.{Value}
use Rattle.cvl_base.specs.declared.value.Value.TheVariants as value
use Rattle.cvl_base.specs.declared.call.Arg.{Arg}
use Rattle.cvl_base.specs.declared.call.Arg.TheVariants as arg
use Rattle.cvl_base.specs.declared.kind.Kind.{Kind}
use Rattle.cvl_base.specs.declared.operation.Op.{Op}
use Rattle.cvl_base.specs.declared.fault.Fault.{Fault}
use Rattle.cvl_base.specs.declared.fault.FaultNo.TheVariants.{UnknownName, WrongArgumentCount, WrongKind}
use Rattle.cvl_base.specs.Faults.{fault}
use Rattle.cvl_base.specs.Values.{kind_of}
use Rattle.cvl_base.specs.Calls.{accepts_of, takes_of}
use Rattle.bound_names.specs.Names.{Entries, value_at}

-- the fault of an argument of this kind, or of a name that is not bound
abbrev pub kind_fault : (Kind → Bool) → Option Kind → Option Fault
kind_fault accepts None = Some (fault UnknownName)
kind_fault accepts (Some kind) = if accepts kind then None else Some (fault WrongKind)

-- the first of two faults
abbrev pub earlier : Option Fault → Option Fault → Option Fault
earlier (Some f) later = Some f
earlier None later = later

module _ {A : Type 0} where
  -- a name stands for the value that is bound to it, and a literal for itself
  abbrev pub arg_value : Entries A → Arg → Option (Value A)
  arg_value names (arg.Name name) = value_at names name
  arg_value names (arg.Integer n) = Some (value.Integer n)
  arg_value names (arg.Boolean b) = Some (value.Boolean b)

  -- an argument at its place among so many: is its name bound, is its kind right
  abbrev pub arg_fault : Entries A → Op → ℕ → ℕ → Arg → Option Fault
  arg_fault names op count place arg = kind_fault (accepts_of op count place) (option_map kind_of (arg_value names arg))

  -- each argument from left to right
  abbrev pub each_fault : Entries A → Op → ℕ → ℕ → List Arg → Option Fault
  each_fault names op count place [] = None
  each_fault names op count place (first ∷ others) =
      earlier (arg_fault names op count place first) (each_fault names op count (place + 1) others)

  -- first whether there are as many as the call takes, and then each
  abbrev pub args_fault : Entries A → Op → List Arg → Option Fault
  args_fault names op args =
      if takes_of op (length args) then each_fault names op (length args) 0 args else Some (fault WrongArgumentCount)

  -- the value of the argument at a place
  abbrev pub argument_at : Entries A → List Arg → ℕ → Option (Value A)
  argument_at names args place = option_and_then (arg_value names) (slice_get args place)

  -- the fault of the argument at a place, if there is one
  abbrev pub place_fault : Entries A → Op → List Arg → ℕ → Option Fault
  place_fault names op args place = option_and_then (arg_fault names op (length args) place) (slice_get args place)

  -- the lengths of a descriptor; no other value has any
  abbrev pub lengths_of : Value A → Option (List ℕ)
  lengths_of (value.Descriptor lengths) = Some lengths
  lengths_of _ = None

  -- what a value of each kind holds; nothing of no value or of another kind
  abbrev pub integers_in : Option (Value A) → List ℤ
  integers_in (Some (value.Integers xs)) = xs
  integers_in _ = []

  -- the booleans of an argument; none if it holds no such vector
  abbrev pub booleans_in : Option (Value A) → List Bool
  booleans_in (Some (value.Booleans bs)) = bs
  booleans_in _ = []

  -- the lengths of a descriptor, if the argument holds one
  abbrev pub descriptor_in : Option (Value A) → Option (List ℕ)
  descriptor_in v = option_and_then lengths_of v

  -- the lengths of a descriptor; none if the argument holds no descriptor
  abbrev pub lengths_in : Option (Value A) → List ℕ
  lengths_in v = unwrap_or (descriptor_in v) []

  -- the integer of an argument; 0 if it holds none
  abbrev pub integer_in : Option (Value A) → ℤ
  integer_in (Some (value.Integer n)) = n
  integer_in _ = pos 0

  -- the boolean of an argument; F if it holds none
  abbrev pub boolean_in : Option (Value A) → Bool
  boolean_in (Some (value.Boolean b)) = b
  boolean_in _ = false
