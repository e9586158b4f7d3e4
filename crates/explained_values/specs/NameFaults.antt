-- A name that is not bound, and names that are too many, in words.
-- Source: this library's script format.
use Rattle.std.specs.Prelude.{ℕ, Bool, ◌+◌, ◌++◌, nat_eq, List, [], ◌∷◌, codes, find, if◌then◌else◌}
use Rattle.std.specs.Prelude.{Option, Some, None, is_none, is_some, option_map}
use Rattle.std.specs.Cmp.Lexicographic.{pointwise}
use Rattle.std.specs.Fmt.{decimal}
use Rattle.std.specs.List.{list_any}
use Rattle.cvl_base.specs.declared.operation.Op.{Op}
use Rattle.cvl_base.specs.Calls.{binds_of, spelling_of}
use Rattle.cvl_base.specs.Spellings.{op_of}
use Rattle.explained_calls.specs.Nearest.{near}
use Rattle.explained_calls.specs.Sentences.{counted}
use Rattle.explained_values.specs.Arguments.{Spelled}

-- the words to add if no name is near: there may be none at all
abbrev pub far_words : List (List ℕ) → List ℕ
far_words [] = codes ", and no name is bound"
far_words (name ∷ names) = []

-- `; the nearest name is v`, if one is near
abbrev pub near_words : List (List ℕ) → Option (List ℕ) → List ℕ
near_words names None = far_words names
near_words names (Some name) = codes "; the nearest name is " ++ name

-- `w is not bound; the nearest name is v`
abbrev pub not_bound_words : List (List ℕ) → List ℕ → List ℕ
not_bound_words names word = word ++ codes " is not bound" ++ near_words names (near word names)

-- `add_ruz is a call, and write takes names of values and not calls: bind its result first`
abbrev pub call_inside_words : Op → List ℕ → List ℕ
call_inside_words op word =
    word ++ codes " is a call, and " ++ spelling_of op ++ codes " takes names of values and not calls: bind its result first"

-- the words for a name that is not bound, which may be that of a call
abbrev pub unbound_name_words : List (List ℕ) → Op → List ℕ → List ℕ
unbound_name_words names op word = if is_some (op_of word) then call_inside_words op word else not_bound_words names word

module _ {A : Type 0} where
  -- the first argument without a value
  abbrev pub unbound_words : List (List ℕ) → Op → List (Spelled A) → Option (List ℕ)
  unbound_words names op args = option_map (λ a. unbound_name_words names op a.word) (find (λ a. is_none a.value) args)

-- whether a word is among others
abbrev pub is_among : List ℕ → List (List ℕ) → Bool
is_among word words = list_any (λ other. pointwise nat_eq other word) words

-- what a word adds to the number of different ones: nothing, if it is among those behind it
abbrev pub new_word : List ℕ → List (List ℕ) → ℕ
new_word word behind = if is_among word behind then 0 else 1

-- how many different words there are
abbrev pub different : List (List ℕ) → ℕ
different [] = 0
different (word ∷ words) = new_word word words + different words

-- `the lines before bind 4095 names, and this line binds 2: at most 4096 may be bound`
abbrev pub room_words : List (List ℕ) → Op → List ℕ
room_words names op =
    codes "the lines before bind " ++ counted (different names) (codes "name") ++ codes ", and this line binds "
    ++ decimal (binds_of op) ++ codes ": at most 4096 may be bound"
