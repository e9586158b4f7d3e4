-- An argument of another kind than a call takes, in words.
-- Source: the table of calls.
use Rattle.std.specs.Prelude.{ℕ, ◌+◌, ◌==◌, ◌++◌, Bool, false, not, List, [], codes, find, length, slice_get, if◌then◌else◌}
use Rattle.std.specs.Prelude.{Option, Some, None, option_map}
use Rattle.std.specs.Option.{option_map_or}
use Rattle.std.specs.List.{enumerate_from}
use Rattle.std.specs.Fmt.{decimal}
use Rattle.cvl_base.specs.declared.kind.Kind.{Kind}
use Rattle.cvl_base.specs.declared.kind.Kind.TheVariants.{Integers, Booleans, Descriptor, Integer, Boolean}
use Rattle.cvl_base.specs.declared.operation.Op.{Op}
use Rattle.cvl_base.specs.Calls.{accepts_of, is_write, operands_of, spelling_of}
use Rattle.cvl_base.specs.Words.{is_name}
use Rattle.explained_values.specs.Arguments.{Spelled, kind_in}

-- what a value of a kind is, without an article
abbrev pub noun : Kind → List ℕ
noun Integers = codes "vector of integers"
noun Booleans = codes "vector of booleans"
noun Descriptor = codes "descriptor"
noun Integer = codes "single integer"
noun Boolean = codes "single boolean"

-- the kind that the call takes at a place; `write` takes more than one
abbrev pub operand_at : Op → ℕ → Option Kind
operand_at op place = slice_get (operands_of op) place

-- what the call takes at a place, without an article; `write` takes a vector and then its descriptor
abbrev pub wanted_noun : Op → ℕ → List ℕ
wanted_noun op place =
    if is_write op then (if place == 0 then codes "vector" else codes "descriptor")
    else option_map_or noun (operand_at op place) []

-- `, d, holds a descriptor`; of a number or a boolean of the line itself ` is the single integer 2`
abbrev pub holds_words : List ℕ → Option Kind → List ℕ
holds_words word kind =
    if is_name word then codes ", " ++ word ++ codes ", holds a " ++ option_map_or noun kind []
    else (codes " is the " ++ option_map_or noun kind [] ++ codes " " ++ word)

-- which call repeats a single value, if the call takes a vector of such values in its place
abbrev pub repeating : Option Kind → Option Kind → Option (List ℕ)
repeating (Some Integer) (Some Integers) = Some (codes "dis_vuz")
repeating (Some Boolean) (Some Booleans) = Some (codes "dis_vub")
repeating _ _ = None

-- how to repeat the single value, if that helps
abbrev pub repeat_words : List ℕ → Option (List ℕ) → List ℕ
repeat_words word None = []
repeat_words word (Some call) = codes "; `" ++ call ++ codes " " ++ word ++ codes " N` makes N copies"

-- `argument 1 is the single integer 2, and mul_wuz takes a vector of integers; `dis_vuz 2 N` makes N copies`
abbrev pub holding_words : Op → ℕ → List ℕ → Option Kind → List ℕ
holding_words op place word kind =
    codes "argument " ++ decimal (place + 1) ++ holds_words word kind ++ codes ", and " ++ spelling_of op ++ codes " takes a "
    ++ wanted_noun op place ++ repeat_words word (repeating kind (operand_at op place))

module _ {A : Type 0} where
  -- whether the call takes no value of an argument's kind at its place
  abbrev pub is_refused : Op → ℕ → ℕ × Spelled A → Bool
  is_refused op count placed = option_map_or (λ kind. not (accepts_of op count placed.0 kind)) (kind_in placed.1.value) false

  -- the first argument of a kind that the call does not take
  abbrev pub kind_fault_words : Op → List (Spelled A) → Option (List ℕ)
  kind_fault_words op args =
      option_map (λ placed. holding_words op placed.0 placed.1.word (kind_in placed.1.value))
      (find (is_refused op (length args)) (enumerate_from 0 args))
