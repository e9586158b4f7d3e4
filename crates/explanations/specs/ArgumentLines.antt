-- The arguments of a call in an explanation: what each name holds, and the line that bound it.
-- Source: this library's program.
use Rattle.std.specs.Prelude.{ℕ, ◌-◌, ◌==◌, ◌++◌, nat_eq, ℤ, pos, negsuc, Bool, false, List, [], ◌∷◌, codes, map, slice_get}
use Rattle.std.specs.Prelude.{Option, Some, None, if◌then◌else◌}
use Rattle.std.specs.Cmp.Lexicographic.{pointwise}
use Rattle.std.specs.Borrow.{Bor}
use Rattle.std.specs.Fmt.{decimal, signed_decimal}
use Rattle.std.specs.List.{list_any}
use Rattle.cvl_base.specs.declared.call.Arg.{Arg}
use Rattle.cvl_base.specs.declared.call.Arg.TheVariants as arg
use Rattle.bound_names.specs.Arguments.{arg_value}
use Rattle.bound_names.specs.Names.{Entries}
use Rattle.explained_calls.specs.Sentences.{indented}
use Rattle.explained_calls.specs.Shown.{shown}
use Rattle.explained_values.specs.Arguments.{Spelled, argument_words}
use Rattle.explanations.specs.Bindings.{last_binding}
use Rattle.explanations.specs.declared.bindings.Binding.{Binding}

-- the names of the inputs' files, as they are borrowed
abbrev pub names_in : List (Bor (List ℕ)) → List (List ℕ)
names_in files = map (λ file. file.now) files

-- the name of the file of the input with this number, counted from 1
abbrev pub file_at : List (List ℕ) → ℤ → Option (List ℕ)
file_at files (pos n) = if n == 0 then None else slice_get files (n - 1)
file_at files (negsuc n) = None

-- ` (index.txt)`
abbrev pub file_words : Option (List ℕ) → List ℕ
file_words None = []
file_words (Some file) = codes " (" ++ shown file ++ codes ")"

-- ` by input 2 (index.txt)`
abbrev pub input_words : List (List ℕ) → Option ℤ → List ℕ
input_words files None = []
input_words files (Some n) = codes " by input " ++ signed_decimal n ++ file_words (file_at files n)

-- `, bound at line 1 by input 2 (index.txt)`
abbrev pub binding_words : List (List ℕ) → Option Binding → List ℕ
binding_words files None = codes ", bound before the script"
binding_words files (Some binding) =
    codes ", bound at line " ++ decimal binding.line ++ input_words files binding.input

-- an argument as a line writes it: a name, a number in decimal, `T` or `F`
abbrev pub word_of : Arg → List ℕ
word_of (arg.Name name) = name
word_of (arg.Integer n) = signed_decimal n
word_of (arg.Boolean b) = if b then codes "T" else codes "F"

module _ {A : Type 0} where
  -- an argument with its word and its value
  abbrev pub spelled : Entries A → Arg → Spelled A
  spelled names arg = record { word = word_of arg; value = arg_value names arg }

  -- what bound a name; nothing if it is not bound
  abbrev pub bound_words : List (List ℕ) → List Binding → List ℕ → Option A → List ℕ
  bound_words files bindings name None = []
  bound_words files bindings name (Some value) = binding_words files (last_binding name bindings)

module _ {A : Type 0} where
  -- `v: integers, 8 elements, bound at line 1 by input 1 (v.txt)`; a number, `T` or `F` explains itself
  abbrev pub argument_line : Entries A → List (List ℕ) → List Binding → Arg → List ℕ
  argument_line names files bindings (arg.Name name) =
      let a = spelled names (arg.Name name) in
      indented (argument_words a ++ bound_words files bindings name a.value)
  argument_line names files bindings _ = []

-- whether an argument is this name
abbrev pub is_named : List ℕ → Arg → Bool
is_named name (arg.Name other) = pointwise nat_eq other name
is_named name _ = false

-- whether an argument is a name that is among others
abbrev pub is_told : List Arg → Arg → Bool
is_told others (arg.Name name) = list_any (is_named name) others
is_told others _ = false

module _ {A : Type 0} where
  -- the line of an argument behind others, unless it is a name among them
  abbrev pub new_line : List Arg → Entries A → List (List ℕ) → List Binding → Arg → List ℕ
  new_line before names files bindings a = if is_told before a then [] else argument_line names files bindings a

  -- the lines of arguments behind others: one for each name, at the first of its places
  abbrev pub argument_lines_after : List Arg → Entries A → List (List ℕ) → List Binding → List Arg → List ℕ
  argument_lines_after before names files bindings [] = []
  argument_lines_after before names files bindings (a ∷ others) =
      new_line before names files bindings a ++ argument_lines_after (before ++ a ∷ []) names files bindings others

  -- the lines of the arguments of a call
  abbrev pub argument_lines : Entries A → List (List ℕ) → List Binding → List Arg → List ℕ
  argument_lines names files bindings args = argument_lines_after [] names files bindings args
