-- A line's arguments, read one after the other.
use Rattle.line_reader.proofs.Cited.{◌≡◌, ℕ, List, [], ◌∷◌, ◌++◌, Option, Some, None, Result, Ok, Err, ap, sym, ◌∙◌, ok_or}
use Rattle.cvl_base.specs.declared.fault.Fault.{Fault}
use Rattle.cvl_base.specs.declared.fault.FaultNo.TheVariants.{BadNumber}
use Rattle.cvl_base.specs.declared.call.Arg.{Arg}
use Rattle.cvl_base.specs.Faults.{fault}
use Rattle.cvl_base.specs.Gives.{◌>>=◌, after}
use Rattle.cvl_base.proofs.Gives.{after-end, after-none, after-one}
use Rattle.line_reader.specs.Lines.{arg_of, args_of}

-- the arguments that were read, and then those of the tokens that are left
abbrev pub behind : List Arg → List (List ℕ) → Result (List Arg) Fault
behind read left = after read (args_of left)

pub begun : (meaning : Result (List Arg) Fault) → meaning ≡ after [] meaning
begun meaning = sym (after-none meaning)

-- the same, by what the next token stands for
abbrev found_behind : List Arg → List (List ℕ) → Option Arg → Result (List Arg) Fault
found_behind read left found = after read (ok_or found (fault BadNumber) >>= λ a. args_of left >>= λ others. Ok (a ∷ others))

pub one_read : (read : List Arg) (token : List ℕ) (left : List (List ℕ)) (a : Arg) → arg_of token ≡ Some a → behind read (token ∷ left) ≡ behind (read ++ (a ∷ [])) left
one_read read token left a e = ap (found_behind read left) e ∙ after-one read a (args_of left)

pub none_read : (read : List Arg) (token : List ℕ) (left : List (List ℕ)) → arg_of token ≡ None → behind read (token ∷ left) ≡ Err (fault BadNumber)
none_read read token left e = ap (found_behind read left) e

pub all_read : (read : List Arg) → behind read [] ≡ Ok read
all_read read = after-end read
