-- What a call takes and gives, in words.
-- Source: the table of calls.
use Rattle.std.specs.Prelude.{ℕ, zero, suc, List, [], ◌∷◌, ◌++◌, codes, length, if◌then◌else◌}
use Rattle.cvl_base.specs.declared.kind.Kind.{Kind}
use Rattle.cvl_base.specs.declared.kind.Kind.TheVariants.{Integers, Booleans, Descriptor, Integer, Boolean}
use Rattle.cvl_base.specs.declared.operation.Op.{Op}
use Rattle.cvl_base.specs.Calls.{is_write, operands_of, results_of, spelling_of}

-- the words for a kind of value
abbrev pub kind_words : Kind → List ℕ
kind_words Integers = codes "integers"
kind_words Booleans = codes "booleans"
kind_words Descriptor = codes "a descriptor"
kind_words Integer = codes "an integer"
kind_words Boolean = codes "a boolean"

-- what separates a word of a list from so many words after it
abbrev pub separator : ℕ → List ℕ
separator zero = []
separator (suc zero) = codes " and "
separator (suc (suc more)) = codes ", "

-- `integers`, `integers and a descriptor`, `integers, integers and booleans`
abbrev pub listed : List Kind → List ℕ
listed [] = []
listed (kind ∷ others) = kind_words kind ++ separator (length others) ++ listed others

-- `add_rez takes integers and a descriptor, and gives integers`
abbrev pub call_words : Op → List ℕ
call_words op =
    if is_write op then codes "write takes a value, or a vector and its descriptor, and shows it"
    else (spelling_of op ++ codes " takes " ++ listed (operands_of op) ++ codes ", and gives " ++ listed (results_of op))
