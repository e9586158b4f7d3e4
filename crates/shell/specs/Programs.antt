-- How the program ends: what it writes, which files it reads, its status, and its message on standard error.
-- Source: this library's program.
use Rattle.std.specs.Prelude.{◌≡◌, ◌⊎◌, ℕ, Bool, true, false, List, [], ◌∷◌, ◌++◌, map, codes, Option, Some, None, IsSome}
use Rattle.std.specs.Prelude.{Result, Ok, Err, IsOk}
use Rattle.std.proofs.Common.{inl, inr}
use Rattle.std.specs.List.{All, AllZip, list_all}
use Rattle.std.specs.Str.{is_utf8}
use Rattle.clap.specs.Words.{IsAmong, Text, fault_of}
use Rattle.clap.specs.declared.error.kind.ErrorKind.{ErrorKind}
use Rattle.clap.specs.declared.error.kind.ErrorKind.TheVariants.{DisplayHelp, DisplayVersion}
use Rattle.command_line.specs.Command.{cvl}
use Rattle.command_line.specs.Reads.{explain_given, inputs_given, script_given}
use Rattle.explained_calls.specs.Sentences.{indented}
use Rattle.explanations.specs.Explained.{explained, memory_words, names_of_script}
use Rattle.vector_handles.specs.declared.input.Input.{Input}
use Rattle.vector_handles.specs.declared.input.Input.TheVariants.{Bytes, Vector}
use Rattle.script_runs.specs.Ends.{EndsAs, with_answer}
use Rattle.script_runs.specs.Hosts.{Read, Seen, Tells, read_of, with_flush, with_reads}
use Rattle.script_runs.specs.Meaning.{meaning}
use Rattle.script_runs.specs.StopTexts.{stop_line}
use Rattle.script_runs.specs.declared.read_failure.ReadFailure.{ReadFailure}
use Rattle.script_runs.specs.declared.stop.Stop.{Stop}
use Rattle.script_runs.specs.declared.stop.Stop.TheVariants as stop
use Rattle.shell.specs.ReadFailures.{explained_failure}

-- how it ends: with its work done or stopped, with its command line refused, or with a file that cannot be read, and why
pub data End : Type 0 where
  ended : Option Stop → End
  refused : End
  unreadable : Text → ReadFailure → End

-- the status of the program for a stop
abbrev pub stop_status : Stop → ℕ
stop_status (stop.Script line f) = 1
stop_status (stop.NoResources line) = 3
stop_status (stop.WriteFailed line) = 3

-- the status of the program for the end that it came to
abbrev pub status_of : End → ℕ
status_of (ended None) = 0
status_of (ended (Some why)) = stop_status why
status_of refused = 2
status_of (unreadable name why) = 3

-- the line for a file that cannot be read
abbrev pub unreadable_line : Text → List ℕ
unreadable_line name = codes "cannot read " ++ name ++ codes "\n"

-- what standard error gets at this end; after a refused command line some text, clap's if there is memory for it
abbrev pub Says : End → Option (List ℕ) → Type 0
Says (ended None) told = told ≡ None
Says (ended (Some why)) told = told ≡ Some (stop_line why)
Says refused told = IsSome told
Says (unreadable name why) told = told ≡ Some (unreadable_line name)

-- the work's own stop; else a flush that failed is a failed write
abbrev pub end_of : Result (Unit {0}) Stop → Bool → Option Stop
end_of (Err why) flushed = Some why
end_of (Ok done) true = None
end_of (Ok done) false = Some (stop.WriteFailed 0)

-- ---- the files that are read

module _ {A : Type 0} where
  -- the input is the very bytes that the read gave
  abbrev pub Gave : Read → Input A → Type 0
  Gave read (Bytes bytes) = read.bytes ≡ Ok bytes.items
  Gave read (Vector numbers) = ⊥

  -- the files of these names are read, each once and in this order, and gave the inputs
  pub record GaveInputs (names : List Text) (reads : List Read) (inputs : List (Input A)) : Type 0 where
    pub in_order : map (λ read. read.name) reads ≡ names
    pub given : AllZip Gave reads inputs

-- the files of the names are read, each once and in this order, up to this one, the first that could not be read, for this reason
pub record StopsAt (names : List Text) (reads : List Read) (name : Text) (why : ReadFailure) : Type 0 where
  pub before : List Read
  pub after : List Text
  pub in_order : names ≡ map (λ read. read.name) before ++ name ∷ after
  pub last : reads ≡ before ++ read_of name (Err why) ∷ []
  pub given : All (λ read. IsOk read.bytes) before

-- ---- the work: what it reads, what it writes on standard output, and its answer

-- there is no memory for the words, for the text that is asked for, or for what must be ready before the first read
abbrev pub Starves : List ℕ → Result (Unit {0}) Stop → Type 0
Starves written answer = (written ≡ []) × (answer ≡ Err (stop.NoResources 0))

-- clap's error is no fault: the help or the version was asked for
abbrev pub IsAsked : ErrorKind → Type 0
IsAsked kind = (kind ≡ DisplayHelp) ⊎ (kind ≡ DisplayVersion)

-- clap's text of what was asked for is written, or a write fails
abbrev pub IsShown : Result (Unit {0}) Stop → Type 0
IsShown answer = (answer ≡ Ok tt) ⊎ (answer ≡ Err (stop.WriteFailed 0))

-- the script is read, then each input, and it is run over the bytes that were read
pub record RunsFiles
    (A : Type 0) (script_name : Text) (input_names : List Text) (reads : List Read) (written : List ℕ)
    (answer : Result (Unit {0}) Stop) : Type 0 where
  pub script : List ℕ
  pub input_reads : List Read
  pub inputs : List (Input A)
  pub script_first : reads ≡ read_of script_name (Ok script) ∷ input_reads
  pub then_inputs : GaveInputs input_names input_reads inputs
  pub ends : EndsAs (meaning script inputs) written answer

-- the work that the words ask for
abbrev pub Works : Type 0 → List Text → List Read → List ℕ → Result (Unit {0}) Stop → Type 0
Works A words reads written answer =
    ((reads ≡ []) × Starves written answer)
    ⊎ (((reads ≡ []) × (kind : ErrorKind) × IsAsked kind × IsAmong kind (fault_of cvl words) × IsShown answer)
    ⊎ ((fault_of cvl words ≡ []) × (script : Text) × (script_given words ≡ Some script)
    × RunsFiles A script (inputs_given words) reads written answer))

-- ---- how the program comes to its end

-- the words lead to this end: files are read, the work is written, standard output is flushed, then standard error written; at other ends
-- no standard output is written
abbrev pub Comes : Type 0 → List Text → Seen → Option (List ℕ) → Seen → End → Type 0
Comes A words before told after (ended end) =
    (reads : List Read) × (written : List ℕ) × (answer : Result (Unit {0}) Stop) × (flushed : Bool)
    × Works A words reads written answer × (end ≡ end_of answer flushed)
    × Tells told (with_flush flushed (with_answer written answer (with_reads reads before))) after
Comes A words before told after refused =
    (kind : ErrorKind) × IsAmong kind (fault_of cvl words) × (IsAsked kind → ⊥)
    × Tells told before after
Comes A words before told after (unreadable name why) =
    (fault_of cvl words ≡ []) × (script : Text) × (script_given words ≡ Some script)
    × (reads : List Read) × StopsAt (script ∷ inputs_given words) reads name why
    × Tells told (with_reads reads before) after

-- the program ran on these words: what its host shows before and after, and the status
pub record Performs (A : Type 0) (words : List Text) (before after : Seen) (status : ℕ) : Type 0 where
  pub end : End
  pub told : Option (List ℕ)
  pub comes : Comes A words before told after end
  pub says : Says end told
  pub status_is : status ≡ status_of end

-- ---- how it comes to its end if the words ask for explanations

-- the line in the place of an explanation for which there is no memory
abbrev pub no_memory_line : List ℕ
no_memory_line = codes "cvl: no memory to explain this\n"

-- what is told of a stop is its explanation; only the explanation of a script's fault takes memory, and if that is refused the line says so
abbrev pub SaysWhy : Stop → List ℕ → Option (List ℕ) → Type 0
SaysWhy (stop.Script line f) explanation told = (told ≡ Some no_memory_line) ⊎ (told ≡ Some explanation)
SaysWhy (stop.NoResources line) explanation told = told ≡ Some explanation
SaysWhy (stop.WriteFailed line) explanation told = told ≡ Some explanation

-- why a script stopped is explained, by the names of its inputs' files; if it did not stop, nothing is
abbrev pub ExplainsStop : {A : Type 0} → List Text → List ℕ → List (Input A) → Option Stop → Option (List ℕ) → Type 0
ExplainsStop files script inputs None told = told ≡ None
ExplainsStop files script inputs (Some why) told =
    SaysWhy why (explained (names_of_script script inputs) files inputs script why) told

-- that there was no memory before the first file was read is explained where it is known that this was asked for: not while the words
-- are read, for which there may be no memory either
abbrev pub ExplainsStarved : Option (List ℕ) → Type 0
ExplainsStarved told = (told ≡ None) ⊎ (told ≡ Some (indented memory_words))

-- about the very script and inputs that were read and run; help and the version are no scripts, and nothing is explained
abbrev pub ExplainsWork : (A : Type 0) (words : List Text) (reads : List Read) (written : List ℕ) (answer : Result (Unit {0}) Stop)
    → Works A words reads written answer → Option Stop → Option (List ℕ) → Type 0
ExplainsWork A words reads written answer (inl starved) end told = ExplainsStarved told
ExplainsWork A words reads written answer (inr (inl shown)) end told = told ≡ None
ExplainsWork A words reads written answer (inr (inr (taken, name, named, run))) end told =
    ExplainsStop (inputs_given words) run.script run.inputs end told

-- what the program adds on standard error to an end that it came to, if it was asked to explain
abbrev pub ExplainsEnd : (A : Type 0) (words : List Text) (before : Seen) (first : Option (List ℕ)) (after : Seen) (end : End)
    → Comes A words before first after end → Option (List ℕ) → Type 0
ExplainsEnd A words before first after (ended end) (reads, written, answer, flushed, works, is, tells) told =
    ExplainsWork A words reads written answer works end told
ExplainsEnd A words before first after refused comes told = told ≡ None
ExplainsEnd A words before first after (unreadable name why) comes told = told ≡ Some (explained_failure name why)

-- the program ran on these words as without explanations, and then standard error gets the explanation
pub record PerformsAndExplains (A : Type 0) (words : List Text) (before after : Seen) (status : ℕ) : Type 0 where
  pub mid : Seen
  pub performs : Performs A words before mid status
  pub told : Option (List ℕ)
  pub explains : ExplainsEnd A words before performs.told mid performs.end performs.comes told
  pub tells : Tells told mid after

-- the program ran on these words, with explanations or without
pub record PerformsAsAsked (A : Type 0) (words : List Text) (before after : Seen) (status : ℕ) : Type 0 where
  pub plain : explain_given words ≡ false → Performs A words before after status
  pub explaining : explain_given words ≡ true → PerformsAndExplains A words before after status

-- ---- the words of a process

-- there is no memory for the words of the command line: that is reported, nothing else is done
abbrev pub IsStarved : Seen → Seen → ℕ → Type 0
IsStarved before after status = Tells (Some (stop_line (stop.NoResources 0))) before after × (status ≡ 3)

-- the program ran on these words, or there is no memory for them
abbrev pub PerformsOrStarves : Type 0 → List Text → Seen → Seen → ℕ → Type 0
PerformsOrStarves A words before after status =
    IsStarved before after status ⊎ PerformsAsAsked A words before after status

-- a word of the command line is not UTF-8: that is reported, nothing else is done
abbrev pub IsNoText : Seen → Seen → ℕ → Type 0
IsNoText before after status =
    Tells (Some (codes "the command line is not UTF-8\n")) before after × (status ≡ 2)

-- the program ran on these words, of any bytes
pub record PerformsOn (A : Type 0) (words : List (List ℕ)) (before after : Seen) (status : ℕ) : Type 0 where
  pub texts : list_all is_utf8 words ≡ true → PerformsOrStarves A words before after status
  pub no_text : list_all is_utf8 words ≡ false → IsNoText before after status

-- there is no memory for the words of the process, or the program ran on them, whatever they are
abbrev pub PerformsOnSome : Type 0 → Seen → Seen → ℕ → Type 0
PerformsOnSome A before after status =
    IsStarved before after status ⊎ ((words : List (List ℕ)) × PerformsOn A words before after status)
