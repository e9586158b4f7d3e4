-- The grammar of a line of a script, by cases on its tokens. The order of checks is the line's form, the call's name,
-- the number of arguments, the line's numbers.
-- Source: this library's script format.
use Rattle.std.specs.Prelude.{ℕ, Bool, false, not, ◌&&◌, ◌||◌, ◌==◌, nat_eq, List, [], ◌∷◌, length, codes, Option}
use Rattle.std.specs.Prelude.{Some, None, option_map, Result, Ok, Err, if◌then◌else◌, ok_or}
use Rattle.std.specs.List.{list_all, before_first}
use Rattle.std.specs.Char.{is_ascii_digit}
use Rattle.std.specs.Cmp.Lexicographic.{pointwise}
use Rattle.cvl_base.specs.declared.fault.Fault.{Fault}
use Rattle.cvl_base.specs.declared.fault.FaultNo.TheVariants.{BadLine, UnknownCall, WrongArgumentCount, BadNumber}
use Rattle.cvl_base.specs.declared.call.Arg.{Arg}
use Rattle.cvl_base.specs.declared.call.Arg.TheVariants as arg
use Rattle.cvl_base.specs.declared.call.Call.{Call}
use Rattle.cvl_base.specs.declared.call.ResultNames.{ResultNames}
use Rattle.cvl_base.specs.declared.call.ResultNames.TheVariants as results
use Rattle.cvl_base.specs.declared.operation.Op.{Op}
use Rattle.cvl_base.specs.declared.operation.Op.TheVariants.{Write}
use Rattle.cvl_base.specs.Calls.{binds_of, takes_of}
use Rattle.cvl_base.specs.Spellings.{op_of}
use Rattle.cvl_base.specs.Faults.{fault}
use Rattle.cvl_base.specs.Gives.{◌>>=◌, fault_if}
use Rattle.cvl_base.specs.ResultNames.{count_of_results}
use Rattle.cvl_base.specs.Words.{is_word, is_name}
use Rattle.line_reader.specs.declared.token.ByteClass.{ByteClass}
use Rattle.line_reader.specs.declared.token.ByteClass.TheVariants.{Blank, Alone, InToken}
use Rattle.line_reader.specs.Tokens.{tokens_by}
use Rattle.line_reader.specs.Numbers.{written_number}

-- space and tab stand between tokens, and `=` (61) is a token of its own
abbrev pub line_class : ℕ → ByteClass
line_class b = if (b == 32) || (b == 9) then Blank else (if b == 61 then Alone else InToken)

-- the tokens of a line
abbrev pub line_tokens : List ℕ → List (List ℕ)
line_tokens bytes = tokens_by line_class bytes

-- a number token begins with a digit or `-` (45)
abbrev pub is_number_token : List ℕ → Bool
is_number_token [] = false
is_number_token (b ∷ bs) = is_ascii_digit b || b == 45

-- whether a token is T or F
abbrev pub is_boolean_token : List ℕ → Bool
is_boolean_token token = pointwise nat_eq token (codes "T") || pointwise nat_eq token (codes "F")

-- a name, `T`, `F` or a number token
abbrev pub is_arg : List ℕ → Bool
is_arg token = is_name token || is_boolean_token token || is_number_token token

-- what an argument token stands for; none for a number token that is malformed or outside 32 bits
abbrev pub arg_of : List ℕ → Option Arg
arg_of token =
    if is_name token then Some (arg.Name token)
    else (if is_boolean_token token then Some (arg.Boolean (pointwise nat_eq token (codes "T")))
    else option_map arg.Integer (written_number token))

-- the arguments of a call, or BadNumber if one is none
abbrev pub args_of : List (List ℕ) → Result (List Arg) Fault
args_of [] = Ok []
args_of (token ∷ tokens) =
    ok_or (arg_of token) (fault BadNumber) >>= λ a. args_of tokens >>= λ others. Ok (a ∷ others)

-- the names that a line binds: one, or two that differ
abbrev pub one_result : List ℕ → Option ResultNames
one_result name = if is_name name then Some (results.One name) else None

-- two different names to bind, or none
abbrev pub two_results : List ℕ → List ℕ → Option ResultNames
two_results first second =
    if is_name first && is_name second && not (pointwise nat_eq first second) then Some (results.Two first second) else None

-- what stands before the first `#` (35)
abbrev pub before_comment : List ℕ → List ℕ
before_comment line = before_first (λ b. b == 35) line

-- whether the first token is `=`
abbrev pub begins_with_equals : List (List ℕ) → Bool
begins_with_equals [] = false
begins_with_equals (token ∷ tokens) = pointwise nat_eq token (codes "=")

module _ {A : Type 0} where
  -- a line that is this call
  abbrev pub the_call : ResultNames → Op → List Arg → Result (Option (Call A)) Fault
  the_call bound op args = Ok (Some (record { results = bound; op = op; args = args }))

  -- as many arguments and names as the call takes and binds
  abbrev pub with_op : ResultNames → Option Op → List (List ℕ) → Result (Option (Call A)) Fault
  with_op bound None args = Err (fault UnknownCall)
  with_op bound (Some op) args =
      fault_if (not (takes_of op (length args) && count_of_results bound == binds_of op)) (fault WrongArgumentCount)
      (args_of args >>= the_call bound op)

  -- `= CALL ARG ..`, after the names that it binds
  abbrev pub bound_call : ResultNames → List (List ℕ) → Result (Option (Call A)) Fault
  bound_call bound (equals ∷ call ∷ args) =
      fault_if (not (pointwise nat_eq equals (codes "=") && is_word call && list_all is_arg args)) (fault BadLine)
      (with_op bound (op_of call) args)
  bound_call bound _ = Err (fault BadLine)

  -- `NAME = CALL ARG ..` or `NAME NAME = CALL ARG ..`
  abbrev pub binding : List (List ℕ) → Result (Option (Call A)) Fault
  binding (first ∷ second ∷ others) =
      if pointwise nat_eq second (codes "=")
      then (ok_or (one_result first) (fault BadLine) >>= λ bound. bound_call bound (second ∷ others))
      else (ok_or (two_results first second) (fault BadLine) >>= λ bound. bound_call bound others)
  binding _ = Err (fault BadLine)

  -- `write NAME` or `write NAME NAME`
  abbrev pub write_line : List (List ℕ) → Result (Option (Call A)) Fault
  write_line names = fault_if (not (list_all is_name names)) (fault BadLine) (with_op results.None (Some Write) names)

  -- what a line says, by its first tokens: nothing, a write or a binding
  abbrev pub form_of : List (List ℕ) → Result (Option (Call A)) Fault
  form_of [] = Ok None
  form_of (first ∷ others) =
      if pointwise nat_eq first (codes "write") && not (begins_with_equals others)
      then write_line others
      else binding (first ∷ others)

  -- what stands before the comment, read by its tokens: nothing, a call, or the first fault
  abbrev pub call_of : List ℕ → Result (Option (Call A)) Fault
  call_of line = form_of (line_tokens (before_comment line))
