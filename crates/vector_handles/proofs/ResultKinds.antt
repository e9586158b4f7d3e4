-- The kind of the value that each call gives.
use Rattle.std.proofs.Common.{◌≡◌, refl, ap, List, [], ◌∷◌, Option, Some, None, Result, Ok, Err}
use Rattle.std.specs.Prelude.{ℕ, ℤ, Bool, IfOk}
use Rattle.std.specs.Option.{ok_or}
use Rattle.cvl_base.specs.declared.fault.Fault.{Fault}
use Rattle.cvl_base.specs.declared.fault.FaultNo.TheVariants.{NoSuchInput}
use Rattle.cvl_base.specs.declared.families.Cut.TheVariants.{Flat, Segmented}
use Rattle.cvl_base.specs.declared.families.Element.TheVariants.{Integer, Boolean}
use Rattle.cvl_base.specs.declared.kind.Kind.{Kind}
use Rattle.cvl_base.specs.declared.kind.Kind.TheVariants as kind
use Rattle.cvl_base.specs.declared.operation.Op.{Op}
use Rattle.cvl_base.specs.declared.operation.Op.TheVariants as op
use Rattle.cvl_base.specs.declared.value.Value.{Value}
use Rattle.cvl_base.specs.declared.value.Value.TheVariants as value
use Rattle.cvl_base.specs.Faults.{fault}
use Rattle.cvl_base.specs.Gives.{◌>>=◌}
use Rattle.cvl_base.specs.Values.{kind_of}
use Rattle.vector_handles.specs.declared.input.Input.{Input}
use Rattle.bound_names.specs.Arguments.{integer_in}
use Rattle.vector_handles.specs.CallValues.{HasNamedKind, HaveNamedKinds, integers_of, nest_of, numbered, vector_and_descriptor}
use Rattle.vector_handles.specs.ElementTypes.{integer}
use Rattle.vector_handles.specs.Families.{ArgumentAt, vector}

module _ (A : Type 0) where
  -- the value, where there is one, is of this kind
  abbrev IsOf : Kind → Result (Value A) Fault → Type 0
  IsOf kind answer = IfOk answer (λ v. kind ∷ [] ≡ kind_of v ∷ [])

  -- a value that is made of an answer is of the kind that is made
  made : {X : Type 0} (make : X → Value A) (kind : Kind) → ((x : X) → kind ≡ kind_of (make x)) →
      (answer : Result X Fault) → IsOf kind (answer >>= λ x. Ok (make x))
  made make kind is (Ok x) = ap (λ k. k ∷ []) (is x)
  made make kind is (Err f) = tt

  integers : (answer : Result (List ℤ) Fault) → IsOf kind.Integers (answer >>= λ xs. Ok (value.Integers xs))
  integers answer = made value.Integers kind.Integers (λ _. refl) answer

  booleans : (answer : Result (List Bool) Fault) → IsOf kind.Booleans (answer >>= λ bs. Ok (value.Booleans bs))
  booleans answer = made value.Booleans kind.Booleans (λ _. refl) answer

  descriptors : (answer : Result (List ℕ) Fault) → IsOf kind.Descriptor (answer >>= λ ns. Ok (value.Descriptor ns))
  descriptors answer = made value.Descriptor kind.Descriptor (λ _. refl) answer

  -- what is made of a first answer, where each of its values makes one of the kind
  after : {X : Type 0} (kind : Kind) (next : X → Result (Value A) Fault) → ((x : X) → IsOf kind (next x)) →
      (first : Result X Fault) → IsOf kind (first >>= next)
  after kind next is (Ok x) = is x
  after kind next is (Err f) = tt

  pub named_kind : (inputs : List (Input A)) (call : Op) (arg : ArgumentAt A) → HasNamedKind inputs call arg
  named_kind inputs op.Input arg =
      after kind.Integers (λ found. vector integer (integers_of found)) (λ found. integers (integers_of found))
      (ok_or (numbered inputs (integer_in (arg 0))) (fault NoSuchInput))
  named_kind inputs op.Nested arg = tt
  named_kind inputs (op.Ints2 o) arg = integers _
  named_kind inputs (op.Ints1 o) arg = refl
  named_kind inputs (op.Compare o) arg = booleans _
  named_kind inputs (op.Bools2 o) arg = booleans _
  named_kind inputs (op.Bools1 o) arg = refl
  named_kind inputs (op.Choose Integer) arg = integers _
  named_kind inputs (op.Choose Boolean) arg = booleans _
  named_kind inputs op.IntFromBool arg = refl
  named_kind inputs op.BoolFromInt arg = refl
  named_kind inputs (op.Scan o Flat) arg = refl
  named_kind inputs (op.Scan o Segmented) arg = integers _
  named_kind inputs (op.Reduce o Flat) arg = refl
  named_kind inputs (op.Reduce o Segmented) arg = integers _
  named_kind inputs (op.CheckedScan Flat) arg = integers _
  named_kind inputs (op.CheckedScan Segmented) arg = integers _
  named_kind inputs (op.CheckedReduce Flat) arg = made _ kind.Integer (λ _. refl) _
  named_kind inputs (op.CheckedReduce Segmented) arg = integers _
  named_kind inputs (op.BoolScan o Flat) arg = refl
  named_kind inputs (op.BoolScan o Segmented) arg = booleans _
  named_kind inputs (op.BoolReduce o Flat) arg = refl
  named_kind inputs (op.BoolReduce o Segmented) arg = booleans _
  named_kind inputs (op.Permute form cut Integer) arg = integers _
  named_kind inputs (op.Permute form cut Boolean) arg = booleans _
  named_kind inputs (op.Length Integer) arg = refl
  named_kind inputs (op.Length Boolean) arg = refl
  named_kind inputs (op.Count Flat) arg = refl
  named_kind inputs (op.Count Segmented) arg = made _ kind.Integers (λ _. refl) _
  named_kind inputs (op.Pack cut Integer) arg = integers _
  named_kind inputs (op.Pack cut Boolean) arg = booleans _
  named_kind inputs op.PackedLengths arg = descriptors _
  named_kind inputs (op.Distribute Flat Integer) arg = integers _
  named_kind inputs (op.Distribute Segmented Integer) arg = integers _
  named_kind inputs (op.Distribute Flat Boolean) arg = booleans _
  named_kind inputs (op.Distribute Segmented Boolean) arg = booleans _
  named_kind inputs (op.Index Flat) arg = integers _
  named_kind inputs (op.Index Segmented) arg = integers _
  named_kind inputs (op.Extract Flat Integer) arg = made _ kind.Integer (λ _. refl) _
  named_kind inputs (op.Extract Segmented Integer) arg = integers _
  named_kind inputs (op.Extract Flat Boolean) arg = made _ kind.Boolean (λ _. refl) _
  named_kind inputs (op.Extract Segmented Boolean) arg = booleans _
  named_kind inputs (op.Replace Flat Integer) arg = integers _
  named_kind inputs (op.Replace Segmented Integer) arg = integers _
  named_kind inputs (op.Replace Flat Boolean) arg = booleans _
  named_kind inputs (op.Replace Segmented Boolean) arg = booleans _
  named_kind inputs op.MakeDescriptor arg = descriptors _
  named_kind inputs op.DescriptorLengths arg = refl
  named_kind inputs op.Write arg = tt

  -- a vector and a descriptor, in this order
  abbrev AreOf : Result (Value A × Value A) Fault → Type 0
  AreOf answer = IfOk answer (λ both. kind.Integers ∷ kind.Descriptor ∷ [] ≡ kind_of both.0 ∷ kind_of both.1 ∷ [])

  nest : (answer : Result (List ℤ × List ℕ) Fault) → AreOf (vector_and_descriptor answer)
  nest (Ok read) = refl
  nest (Err f) = tt

  found : (input : Option (Input A)) → AreOf (ok_or input (fault NoSuchInput) >>= λ found. vector_and_descriptor (nest_of found))
  found None = tt
  found (Some input) = nest (nest_of input)

  pub named_kinds : (inputs : List (Input A)) (call : Op) (arg : ArgumentAt A) → HaveNamedKinds inputs call arg
  named_kinds inputs op.Nested arg = found (numbered inputs (integer_in (arg 0)))
  named_kinds inputs _ arg = tt
