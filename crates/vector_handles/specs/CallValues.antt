-- The value that each call of the table gives, from its arguments: one line for each family and type of elements; and the
-- two values of a call that gives two.
-- Source: CVL's calls, in this library's profile.
use Rattle.std.specs.Prelude.{◌≡◌, ℕ, ◌-◌, ◌==◌, List, [], ◌∷◌, map, slice_get, Option, None, Result, Ok, Err, IfOk, ℤ, pos, negsuc}
use Rattle.std.specs.Prelude.{if◌then◌else◌}
use Rattle.std.specs.Option.{ok_or}
use Rattle.cvl_base.specs.declared.value.Value.{Value}
use Rattle.cvl_base.specs.declared.value.Value.TheVariants as value
use Rattle.cvl_base.specs.declared.families.Cut.{Cut}
use Rattle.cvl_base.specs.declared.families.Cut.TheVariants.{Flat, Segmented}
use Rattle.cvl_base.specs.declared.families.Element.TheVariants.{Integer, Boolean}
use Rattle.cvl_base.specs.declared.operation.Op.{Op}
use Rattle.cvl_base.specs.declared.operation.Op.TheVariants as op
use Rattle.cvl_base.specs.declared.fault.Fault.{Fault}
use Rattle.cvl_base.specs.declared.fault.FaultNo.TheVariants.{BadInput, NoSuchInput, UnknownCall, WrongArgumentCount}
use Rattle.cvl_base.specs.Calls.{results_of}
use Rattle.cvl_base.specs.CheckedSums.{checked_reduce_of, checked_scan_of, checked_seg_reduce_of, checked_seg_scan_of}
use Rattle.cvl_base.specs.Descriptors.{descriptor_of}
use Rattle.cvl_base.specs.Distributes.{index_of}
use Rattle.cvl_base.specs.Elementwise.{ints2_of, ints1_of, compare_of, bools2_of, bools1_of, ints_from_bools, bools_from_ints}
use Rattle.cvl_base.specs.Faults.{fault, fault_at}
use Rattle.cvl_base.specs.Gives.{◌>>=◌}
use Rattle.cvl_base.specs.Packs.{count_of}
use Rattle.cvl_base.specs.Scans.{int_join_of, int_unit_of, bool_join_of, bool_unit_of}
use Rattle.cvl_base.specs.SegmentedCalls.{seg_count_of, seg_index_of}
use Rattle.cvl_base.specs.Values.{kind_of}
use Rattle.call_reader.specs.Inputs.{input_of}
use Rattle.call_reader.specs.NestedTexts.{nested_of}
use Rattle.vector_handles.specs.declared.input.Input.{Input}
use Rattle.vector_handles.specs.declared.input.Input.TheVariants as input
use Rattle.bound_names.specs.Arguments.{integers_in, booleans_in, lengths_in, integer_in}
use Rattle.vector_handles.specs.ElementTypes.{integer, boolean}
use Rattle.vector_handles.specs.Families.{ArgumentAt, single, vector, choose_value, scan_value, reduce_value, permute_value, length_value}
use Rattle.vector_handles.specs.Families.{pack_value, distribute_value, extract_value, replace_value}

module _ {A : Type 0} where
  -- the input with this number, counted from 1
  abbrev pub numbered : List (Input A) → ℤ → Option (Input A)
  numbered inputs (pos n) = if n == 0 then None else slice_get inputs (n - 1)
  numbered inputs (negsuc n) = None

  -- the integers of an input: bytes are read, and a vector is its list
  abbrev pub integers_of : Input A → Result (List ℤ) Fault
  integers_of (input.Bytes bytes) = input_of bytes.items
  integers_of (input.Vector xs) = Ok xs

  -- the integers of an input, or NoSuchInput
  abbrev pub input_value : List (Input A) → ArgumentAt A → Result (Value A) Fault
  input_value inputs arg =
      ok_or (numbered inputs (integer_in (arg 0))) (fault NoSuchInput) >>= λ found. vector integer (integers_of found)

  -- the integers of a nested input and the lengths of its inner lists; a vector is no nested text
  abbrev pub nest_of : Input A → Result (List ℤ × List ℕ) Fault
  nest_of (input.Bytes bytes) = nested_of bytes.items
  nest_of (input.Vector xs) = Err (fault_at BadInput 0)

  -- a vector and its descriptor
  abbrev pub vector_and_descriptor : Result (List ℤ × List ℕ) Fault → Result (Value A × Value A) Fault
  vector_and_descriptor answer = answer >>= λ nest. Ok (value.Integers nest.0, value.Descriptor nest.1)

  -- the vector and the descriptor of a nested input, or NoSuchInput
  abbrev pub nested_values : List (Input A) → ArgumentAt A → Result (Value A × Value A) Fault
  nested_values inputs arg =
      ok_or (numbered inputs (integer_in (arg 0))) (fault NoSuchInput) >>= λ found. vector_and_descriptor (nest_of found)

  -- how many flags are true, in the whole or in each segment
  abbrev pub count_value : Cut → ArgumentAt A → Result (Value A) Fault
  count_value Flat arg = Ok (value.Integer (pos (count_of (booleans_in (arg 0)))))
  count_value Segmented arg =
      seg_count_of (booleans_in (arg 0)) (lengths_in (arg 1)) >>= λ ns. Ok (value.Integers (map pos ns))

  -- an arithmetic progression, one or a segment each
  abbrev pub index_value : Cut → ArgumentAt A → Result (Value A) Fault
  index_value Flat arg = vector integer (index_of (integer_in (arg 0)) (integer_in (arg 1)) (integer_in (arg 2)))
  index_value Segmented arg =
      vector integer (seg_index_of (integers_in (arg 0)) (integers_in (arg 1)) (lengths_in (arg 2)))

  -- the sums before each element, whole or by segments, which never wrap
  abbrev pub checked_scan_value : Cut → ArgumentAt A → Result (Value A) Fault
  checked_scan_value Flat arg = vector integer (checked_scan_of (integers_in (arg 0)))
  checked_scan_value Segmented arg = vector integer (checked_seg_scan_of (integers_in (arg 0)) (lengths_in (arg 1)))

  -- the sum of all, or of each segment, which never wraps
  abbrev pub checked_reduce_value : Cut → ArgumentAt A → Result (Value A) Fault
  checked_reduce_value Flat arg = single integer (checked_reduce_of (integers_in (arg 0)))
  checked_reduce_value Segmented arg = vector integer (checked_seg_reduce_of (integers_in (arg 0)) (lengths_in (arg 1)))

  -- a descriptor as a value
  abbrev pub descriptor : Result (List ℕ) Fault → Result (Value A) Fault
  descriptor answer = answer >>= λ lengths. Ok (value.Descriptor lengths)

  -- the value of each call; the argument at each place stands for that value; `write` is no call and gives none, and `nested` gives two
  abbrev pub table_value : List (Input A) → Op → ArgumentAt A → Result (Value A) Fault
  table_value inputs op.Input arg = input_value inputs arg
  table_value inputs op.Nested arg = Err (fault WrongArgumentCount)
  table_value inputs (op.Ints2 o) arg = vector integer (ints2_of o (integers_in (arg 0)) (integers_in (arg 1)))
  table_value inputs (op.Ints1 o) arg = Ok (value.Integers (ints1_of o (integers_in (arg 0))))
  table_value inputs (op.Compare o) arg = vector boolean (compare_of o (integers_in (arg 0)) (integers_in (arg 1)))
  table_value inputs (op.Bools2 o) arg = vector boolean (bools2_of o (booleans_in (arg 0)) (booleans_in (arg 1)))
  table_value inputs (op.Bools1 o) arg = Ok (value.Booleans (bools1_of o (booleans_in (arg 0))))
  table_value inputs (op.Choose Integer) arg = choose_value integer arg
  table_value inputs (op.Choose Boolean) arg = choose_value boolean arg
  table_value inputs op.IntFromBool arg = Ok (value.Integers (ints_from_bools (booleans_in (arg 0))))
  table_value inputs op.BoolFromInt arg = Ok (value.Booleans (bools_from_ints (integers_in (arg 0))))
  table_value inputs (op.Scan o cut) arg = scan_value integer (int_join_of o) (int_unit_of o) cut arg
  table_value inputs (op.Reduce o cut) arg = reduce_value integer (int_join_of o) (int_unit_of o) cut arg
  table_value inputs (op.CheckedScan cut) arg = checked_scan_value cut arg
  table_value inputs (op.CheckedReduce cut) arg = checked_reduce_value cut arg
  table_value inputs (op.BoolScan o cut) arg = scan_value boolean (bool_join_of o) (bool_unit_of o) cut arg
  table_value inputs (op.BoolReduce o cut) arg = reduce_value boolean (bool_join_of o) (bool_unit_of o) cut arg
  table_value inputs (op.Permute form cut Integer) arg = permute_value integer form cut arg
  table_value inputs (op.Permute form cut Boolean) arg = permute_value boolean form cut arg
  table_value inputs (op.Length Integer) arg = length_value integer arg
  table_value inputs (op.Length Boolean) arg = length_value boolean arg
  table_value inputs (op.Count cut) arg = count_value cut arg
  table_value inputs (op.Pack cut Integer) arg = pack_value integer cut arg
  table_value inputs (op.Pack cut Boolean) arg = pack_value boolean cut arg
  table_value inputs op.PackedLengths arg = descriptor (seg_count_of (booleans_in (arg 0)) (lengths_in (arg 1)))
  table_value inputs (op.Distribute cut Integer) arg = distribute_value integer cut arg
  table_value inputs (op.Distribute cut Boolean) arg = distribute_value boolean cut arg
  table_value inputs (op.Index cut) arg = index_value cut arg
  table_value inputs (op.Extract cut Integer) arg = extract_value integer cut arg
  table_value inputs (op.Extract cut Boolean) arg = extract_value boolean cut arg
  table_value inputs (op.Replace cut Integer) arg = replace_value integer cut arg
  table_value inputs (op.Replace cut Boolean) arg = replace_value boolean cut arg
  table_value inputs op.MakeDescriptor arg = descriptor (descriptor_of (integers_in (arg 0)))
  table_value inputs op.DescriptorLengths arg = Ok (value.Integers (map pos (lengths_in (arg 0))))
  table_value inputs op.Write arg = Err (fault UnknownCall)

  -- the two values of a call that binds two names; every other call gives one or none
  abbrev pub table_pair : List (Input A) → Op → ArgumentAt A → Result (Value A × Value A) Fault
  table_pair inputs op.Nested arg = nested_values inputs arg
  table_pair inputs _ arg = Err (fault WrongArgumentCount)

  -- the value of a call, if it gives one, has the kind that the table names for it, and so have two, in their order
  abbrev pub HasNamedKind : List (Input A) → Op → ArgumentAt A → Type 0
  HasNamedKind inputs call arg = IfOk (table_value inputs call arg) (λ v. results_of call ≡ kind_of v ∷ [])

  -- the two values of a call are of the kinds that the table names
  abbrev pub HaveNamedKinds : List (Input A) → Op → ArgumentAt A → Type 0
  HaveNamedKinds inputs call arg =
      IfOk (table_pair inputs call arg) (λ both. results_of call ≡ kind_of both.0 ∷ kind_of both.1 ∷ [])
