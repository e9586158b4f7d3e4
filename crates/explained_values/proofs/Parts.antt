-- A line where there is something to be said.
use Rattle.std.proofs.Common.{◌≡◌, ℕ, List, ◌++◌, append-nil, sym, Option, Some, None, Result, OnOk, option_map}
use Rattle.explained_calls.specs.Sentences.{indented}
use Rattle.explained_values.specs.Arguments.{line_of}

-- no line where there is nothing to be said
pub no_line : {X : Type 0} (words : X → List ℕ) (o : Option X) (text : List ℕ) → o ≡ None → text ≡ text ++ line_of (option_map words o)
no_line words o text none = rw none (sym (append-nil text))

-- and a line where there is something
pub a_line : {X E : Type 0} (r : Result (Unit {0}) E) (words : X → List ℕ) (o : Option X) (x : X) (old new : List ℕ) → o ≡ Some x
    → OnOk r (new ≡ old ++ indented (words x)) → OnOk r (new ≡ old ++ line_of (option_map words o))
a_line r words o x old new some put = rw some put
