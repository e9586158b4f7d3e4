-- What the parts of the program do on its host.
-- Source: this library's program.
use Rattle.std.specs.Prelude.{◌≡◌, ◌⊎◌, ℕ, ◌≤◌, Bool, List, ◌∷◌, Option, Some, Result, Ok, Err, Vec, length}
use Rattle.std.proofs.Common.{inl, inr}
use Rattle.std.specs.List.{All}
use Rattle.clap.specs.Words.{Text}
use Rattle.vector_handles.specs.declared.input.Input.{Input}
use Rattle.script_runs.specs.Ends.{EndsAs, with_answer}
use Rattle.script_runs.specs.Hosts.{Read, Seen, Shows, Tells, with_flush, with_reads}
use Rattle.script_runs.specs.Meaning.{meaning}
use Rattle.explained_calls.specs.Sentences.{indented}
use Rattle.explanations.specs.Explained.{memory_words}
use Rattle.shell.specs.Programs.{ExplainsStop, GaveInputs, IsShown, SaysWhy, RunsFiles, Says, Starves, StopsAt}
use Rattle.shell.specs.Programs.{end_of, ended, no_memory_line, status_of, unreadable_line}
use Rattle.shell.specs.ReadFailures.{explained_failure}
use Rattle.script_runs.specs.declared.read_failure.ReadFailure.{ReadFailure}
use Rattle.script_runs.specs.declared.stop.Stop.{Stop}
use Rattle.script_runs.specs.declared.stop.Stop.TheVariants as stop

-- the room holds the line about any of these files
abbrev pub HasRoomFor : ℕ → List Text → Type 0
HasRoomFor room names = All (λ name. length (unreadable_line name) ≤ room) names

-- standard error gets some text
abbrev pub TellsSome : Seen → Seen → Type 0
TellsSome before after = (text : List ℕ) × Tells (Some text) before after

-- standard output takes some text
abbrev pub PutsShown : Seen → Seen → Result (Unit {0}) Stop → Type 0
PutsShown before after answer =
    (written : List ℕ) × (Starves written answer ⊎ IsShown answer)
    × Shows (with_answer written answer before) after

-- after the work has given its answer, standard output is flushed, then standard error written, and this is why it ended
pub record EndsBy (answer : Result (Unit {0}) Stop) (before after : Seen) (end : Option Stop) : Type 0 where
  pub flushed : Bool
  pub told : Option (List ℕ)
  pub end_is : end ≡ end_of answer flushed
  pub says : Says (ended end) told
  pub tells : Tells told (with_flush flushed before) after

-- after the work has given its answer, standard output is flushed, then standard error written
pub record Finishes (answer : Result (Unit {0}) Stop) (before after : Seen) (status : ℕ) : Type 0 where
  pub flushed : Bool
  pub told : Option (List ℕ)
  pub says : Says (ended (end_of answer flushed)) told
  pub status_is : status ≡ status_of (ended (end_of answer flushed))
  pub tells : Tells told (with_flush flushed before) after

-- work is done, and finished
pub record Closes
    (Works : List ℕ → Result (Unit {0}) Stop → Type 0) (before after : Seen) (status : ℕ) : Type 0 where
  pub written : List ℕ
  pub answer : Result (Unit {0}) Stop
  pub works : Works written answer
  pub finishes : Finishes answer (with_answer written answer before) after status

-- all inputs are read
abbrev pub ReadsInputs : {A : Type 0} → List Text → Seen → List (Input A) → Seen → Type 0
ReadsInputs names before inputs after =
    (reads : List Read) × GaveInputs names reads inputs × Shows (with_reads reads before) after

-- one of the files cannot be read, for this reason
abbrev pub Misses : List Text → Seen → Text → ReadFailure → Seen → Type 0
Misses names before name why after =
    (reads : List Read) × StopsAt names reads name why × Shows (with_reads reads before) after

-- there is no memory for what must be ready, or a script runs over its inputs, or the first of their files that cannot be read is reported
abbrev pub RunsOrMisses : Type 0 → Text → List Text → Seen → Seen → ℕ → Type 0
RunsOrMisses A script inputs before after status =
    Finishes (Err (stop.NoResources 0)) before after status
    ⊎ (((reads : List Read) × Closes (RunsFiles A script inputs reads) (with_reads reads before) after status)
    ⊎ ((status ≡ 3) × (name : Text) × (why : ReadFailure) × (reads : List Read) × StopsAt (script ∷ inputs) reads name why
    × Tells (Some (unreadable_line name)) (with_reads reads before) after))

-- an explanation, or the line in its place if memory for it is refused
abbrev pub text_or_line : {A E : Type 0} → Result (Vec ℕ A) E → List ℕ
text_or_line (Ok text) = text.items
text_or_line (Err refused) = no_memory_line

-- standard error gets what is told of a stop with this explanation
abbrev pub TellsStop : Stop → List ℕ → Seen → Seen → Type 0
TellsStop why explanation before after =
    (told : Option (List ℕ)) × SaysWhy why explanation told × Tells told before after

-- there is no memory before the first file is read, which is reported and explained
abbrev pub StarvesAndExplains : Seen → Seen → ℕ → Type 0
StarvesAndExplains before after status =
    (mid : Seen) × Finishes (Err (stop.NoResources 0)) before mid status × Tells (Some (indented memory_words)) mid after

-- the script is run over its inputs, and then why it stopped is explained
pub record ClosesAndExplains
    (A : Type 0) (files : List Text) (script : List ℕ) (inputs : List (Input A)) (before after : Seen) (status : ℕ) : Type 0 where
  pub mid : Seen
  pub closes : Closes (EndsAs (meaning script inputs)) before mid status
  pub told : Option (List ℕ)
  pub explains : ExplainsStop files script inputs (end_of closes.answer closes.finishes.flushed) told
  pub tells : Tells told mid after

-- a file that cannot be read is reported, and why is explained
abbrev pub MissesAndExplains : Text → ReadFailure → Seen → Seen → Type 0
MissesAndExplains name why before after =
    (mid : Seen) × Tells (Some (unreadable_line name)) before mid × Tells (Some (explained_failure name why)) mid after

-- about the very script and inputs that were read and run, or the file that could not be read
abbrev pub ExplainsFiles : (A : Type 0) (script : Text) (inputs : List Text) (before after : Seen) (status : ℕ)
    → RunsOrMisses A script inputs before after status → Option (List ℕ) → Type 0
ExplainsFiles A script inputs before after status (inl starved) told = told ≡ Some (indented memory_words)
ExplainsFiles A script inputs before after status (inr (inl (reads, closes))) told =
    let run = closes.works in
    ExplainsStop inputs run.script run.inputs (end_of closes.answer closes.finishes.flushed) told
ExplainsFiles A script inputs before after status (inr (inr (failed, name, why, reads, stops, tells))) told =
    told ≡ Some (explained_failure name why)

-- the same as without explanations, and then the explanation
pub record RunsAndExplains (A : Type 0) (script : Text) (inputs : List Text) (before after : Seen) (status : ℕ) : Type 0 where
  pub mid : Seen
  pub runs : RunsOrMisses A script inputs before mid status
  pub told : Option (List ℕ)
  pub explains : ExplainsFiles A script inputs before mid status runs told
  pub tells : Tells told mid after
