-- What the words of a command line say, in the words of clap's matches for the command.
-- Source: clap's matching of a simple command.
use Rattle.std.specs.Prelude.{◌≡◌, ℕ, List, [], Option, Some, unwrap_or, option_map, Result, Ok, Err, IsSome, Bool, not, codes, pos}
use Rattle.std.specs.Str.{bytes_eq}
use Rattle.std.specs.Str.Parse.{digits_value, without_leading_plus}
use Rattle.clap.specs.Walk.{has_row, nothing_held, settled, walk}
use Rattle.clap.specs.Simple.{argument_words, names_of}
use Rattle.clap.specs.Words.{App, IsAmong, IsSignedIn, Kinds, Row, Text, all_of, built, first_of, first_value, found_of, kind_of}
use Rattle.clap.specs.Words.{matches_of, one_of, one_text, without_minus}
use Rattle.clap.specs.declared.error.Error.{Error}
use Rattle.clap.specs.declared.error.kind.ErrorKind.TheVariants.{OutOfMemory}
use Rattle.clap.specs.declared.parser.matches.ArgMatches.{ArgMatches}
use Rattle.cvl_base.specs.Limits.{longest_tile, most_workers}
use Rattle.command_line.specs.Command.{cvl}
use Rattle.command_line.specs.declared.fault.WordsFault.{WordsFault}
use Rattle.command_line.specs.declared.fault.WordsFault.TheVariants as fault

-- the number of an option: a text of decimal digits, which may have a plus sign and leading zeros
abbrev pub number_in : Text → List Row → Option ℕ
number_in name rows =
    option_map (λ text. digits_value 10 (without_leading_plus text)) (one_of name rows)

-- the number that the words give an option, or its default
abbrev pub number_given : Text → List Text → Option ℕ
number_given name words = number_in name (matches_of cvl words)

-- the name of the script, if the words have one
abbrev pub script_given : List Text → Option Text
script_given words = first_of (codes "script") (matches_of cvl words)

-- whether a flag is set: its one value is `true`
abbrev pub is_set_in : Text → List Row → Bool
is_set_in name rows = bytes_eq (unwrap_or (first_of name rows) []) (codes "true")

-- whether the words ask for an explanation of why a run stopped
abbrev pub explain_given : List Text → Bool
explain_given words = is_set_in (codes "explain") (matches_of cvl words)

-- the names of the inputs, in order
abbrev pub inputs_given : List Text → List Text
inputs_given words = unwrap_or (all_of (codes "inputs") (matches_of cvl words)) []

-- what the words themselves give, before the defaults come in
abbrev pub uses_of : App → List Text → List Row
uses_of app words =
    (settled app.top.rules (walk app.top.rules (names_of app) nothing_held words).held).rows

-- the words do not use the option
abbrev pub is_left_out : Text → List Text → Bool
is_left_out name words = not (has_row name (uses_of (built cvl) (argument_words cvl words)))

-- words are read only if clap finds no fault in them, and a refusal is of the kind of clap's fault
abbrev pub ReadsBy : {W : Type 0} → Kinds → Result W WordsFault → Type 0
ReadsBy kinds (Ok words) = kinds ≡ []
ReadsBy kinds (Err (fault.Refused e)) = IsAmong (kind_of e) kinds
ReadsBy kinds (Err fault.NoResources) = Unit {0}

-- being out of memory is no refusal of clap's
abbrev pub IsFaultOf : Error → WordsFault → Type 0
IsFaultOf error (fault.Refused e) = (e ≡ error) × (kind_of error ≡ OutOfMemory → ⊥)
IsFaultOf error fault.NoResources = kind_of error ≡ OutOfMemory

-- the matches have a number for the option, from 1 to the greatest
pub record HasNumber (m : ArgMatches) (name : Text) (greatest : ℕ) : Type 0 where
  pub text : Text
  pub read : one_text (found_of m) name ≡ Some (without_minus text)
  pub range : IsSignedIn (pos 1) (pos greatest) text

-- the matches of the command have both numbers and the script
pub record HoldsAllArguments (m : ArgMatches) : Type 0 where
  pub tile : HasNumber m (codes "tile") longest_tile
  pub workers : HasNumber m (codes "workers") most_workers
  pub script : IsSome (first_value (found_of m) (codes "script"))
