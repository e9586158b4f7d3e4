-- The grammar of an input: signed decimals between white space.
-- Source: this library's input format.
use Rattle.std.specs.Prelude.{ℕ, Bool, ◌||◌, ◌==◌, nat_lt, List, length, map, ℤ, Result, if◌then◌else◌}
use Rattle.cvl_base.specs.declared.fault.Fault.{Fault}
use Rattle.cvl_base.specs.declared.fault.FaultNo.TheVariants.{TooLong, BadInput}
use Rattle.cvl_base.specs.Elementwise.{values_from}
use Rattle.cvl_base.specs.Faults.{fault}
use Rattle.cvl_base.specs.Gives.{fault_if}
use Rattle.cvl_base.specs.Limits.{most_elements}
use Rattle.line_reader.specs.declared.token.ByteClass.{ByteClass}
use Rattle.line_reader.specs.declared.token.ByteClass.TheVariants.{Blank, InToken}
use Rattle.line_reader.specs.Tokens.{tokens_by}
use Rattle.line_reader.specs.Numbers.{written_number}

-- space, tab, line feed and carriage return are white space
abbrev pub is_white_space : ℕ → Bool
is_white_space b = (b == 32) || (b == 9) || (b == 10) || (b == 13)

-- white space stands between the tokens of an input, and every other byte in one
abbrev pub input_class : ℕ → ByteClass
input_class b = if is_white_space b then Blank else InToken

-- the tokens' numbers, or the fault at the first token that is none; more tokens than this are a fault whatever they are
abbrev pub input_within : ℕ → List ℕ → Result (List ℤ) Fault
input_within most bytes =
    let tokens = tokens_by input_class bytes in
    fault_if (nat_lt most (length tokens)) (fault TooLong)
    (values_from BadInput 0 (map written_number tokens))

-- an input of a script, which has no more tokens than a vector of a script may have elements
abbrev pub input_of : List ℕ → Result (List ℤ) Fault
input_of bytes = input_within most_elements bytes
