-- The operands of a call: what each of its arguments holds, and of which kinds they are.
-- Source: this library's script format.
use Rattle.std.specs.Prelude.{◌≡◌, ℕ, Bool, true, false, List, [], ◌∷◌, slice_get, Option, Some, None, option_and_then, option_map}
use Rattle.cvl_base.specs.declared.kind.Kind.{Kind}
use Rattle.cvl_base.specs.declared.operation.Op.{Op}
use Rattle.cvl_base.specs.declared.value.Value.{Value}
use Rattle.cvl_base.specs.declared.value.Value.TheVariants as value
use Rattle.cvl_base.specs.Calls.{is_write, operands_of}
use Rattle.cvl_base.specs.Values.{kind_of}
use Rattle.bound_names.specs.declared.operands.Operand.{Operand}
use Rattle.bound_names.specs.declared.operands.Operand.TheVariants as operand
use Rattle.bound_names.specs.declared.operands.Operands.{Operands}

-- a claim about calls only; `write` is none
abbrev pub UnlessWrite : Bool → Type 0 → Type 0
UnlessWrite true claim = Unit {0}
UnlessWrite false claim = claim

module _ {A : Type 0} where
  -- what an operand holds
  abbrev pub held : Operand A → Option (Value A)
  held operand.Absent = None
  held (operand.Bound bound) = Some bound.now
  held (operand.Integer n) = Some (value.Integer n)
  held (operand.Boolean b) = Some (value.Boolean b)

  -- the kind of what an operand holds, if it holds something
  abbrev pub kind_held : Operand A → Option Kind
  kind_held operand = option_map kind_of (held operand)

  -- what the operand at each place holds
  abbrev pub held_at : Operands A → ℕ → Option (Value A)
  held_at o place = option_and_then held (slice_get (o.first ∷ o.second ∷ o.third ∷ o.fourth ∷ o.fifth ∷ []) place)

  -- the operands are of these kinds, and there are no more of them
  pub record HaveKinds (kinds : List Kind) (o : Operands A) : Type 0 where
    pub first : kind_held o.first ≡ slice_get kinds 0
    pub second : kind_held o.second ≡ slice_get kinds 1
    pub third : kind_held o.third ≡ slice_get kinds 2
    pub fourth : kind_held o.fourth ≡ slice_get kinds 3
    pub fifth : kind_held o.fifth ≡ slice_get kinds 4

  -- the operands of a call are of the kinds that the table names for it
  abbrev pub AreTaken : Op → Operands A → Type 0
  AreTaken op o = UnlessWrite (is_write op) (HaveKinds (operands_of op) o)
