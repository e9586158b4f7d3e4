-- How the parts of the program come together.
use Rattle.std.proofs.Common.{◌≡◌, ◌∙◌, ℕ, List, [], ◌∷◌, Option, Some, Result, Ok, Err, refl, ap, subst, inl, inr}
use Rattle.clap.specs.Words.{Text, fault_of}
use Rattle.command_line.specs.Command.{cvl}
use Rattle.command_line.specs.Reads.{inputs_given, script_given}
use Rattle.script_runs.specs.Ends.{EndsAs, with_answer}
use Rattle.script_runs.specs.Hosts.{Read, Seen, Shows, Tells, read_of, with_flush, with_reads}
use Rattle.script_runs.proofs.Shown.{nothing_answered, reads_both, shows_answer, shows_flush, shows_nothing_read, shows_on, tells_after}
use Rattle.shell.specs.ProgramParts.{Closes, EndsBy, Finishes, ReadsInputs, RunsOrMisses}
use Rattle.shell.specs.Programs.{Performs, RunsFiles, Says, StopsAt, Works, end_of, ended, status_of, unreadable, unreadable_line}
use Rattle.script_runs.specs.Meaning.{meaning}
use Rattle.vector_handles.specs.declared.input.Input.{Input}
use Rattle.script_runs.specs.declared.read_failure.ReadFailure.{ReadFailure}
use Rattle.script_runs.specs.declared.stop.Stop.{Stop}
use Rattle.script_runs.specs.declared.stop.Stop.TheVariants as stop

-- the end of work by its answer, with its status
pub finishes_by : (answer : Result (Unit {0}) Stop) (before after : Seen) (status : ℕ) (end : Option Stop) → EndsBy answer before after end
    → status ≡ status_of (ended end) → Finishes answer before after status
finishes_by answer before after status end h is = record {
  flushed = h.flushed;
  told = h.told;
  says = subst (λ (e : Option Stop). Says (ended e) h.told) h.end_is h.says;
  status_is = is ∙ ap (λ (e : Option Stop). status_of (ended e)) h.end_is;
  tells = h.tells;
}

-- the end of work, where the host shows at least as much before it
pub finishes_after : (answer : Result (Unit {0}) Stop) (before middle after : Seen) (status : ℕ) → Shows before middle → Finishes answer middle after status → Finishes answer before after status
finishes_after answer before middle after status first h = record {
  flushed = h.flushed;
  told = h.told;
  says = h.says;
  status_is = h.status_is;
  tells = tells_after h.told (with_flush h.flushed before) (with_flush h.flushed middle) after (shows_flush h.flushed before middle first) h.tells;
}

-- work, and then its end
pub closes : (Does : List ℕ → Result (Unit {0}) Stop → Type 0) (before middle after : Seen) (status : ℕ) (written : List ℕ) (answer : Result (Unit {0}) Stop)
    → Does written answer → Shows (with_answer written answer before) middle → Finishes answer middle after status
    → Closes Does before after status
closes Does before middle after status written answer done shown ends = record {
  written = written;
  answer = answer;
  works = done;
  finishes = finishes_after answer (with_answer written answer before) middle after status shown ends;
}

-- the script and its inputs are read, and it is run
pub runs_files : (A : Type 0) (script : Text) (names : List Text) (bytes : List ℕ) (inputs : List (Input A)) (before first middle after : Seen) (status : ℕ)
    → Shows (with_reads (read_of script (Ok bytes) ∷ []) before) first → ReadsInputs names first inputs middle
    → Closes (EndsAs (meaning bytes inputs)) middle after status → RunsOrMisses A script names before after status
runs_files A script names bytes inputs before first middle after status opened read closed =
    let shown = reads_both (read_of script (Ok bytes) ∷ []) read.0 before first middle opened read.2 in
    let reads = read_of script (Ok bytes) ∷ read.0 in
    inr (inl (
      reads,
      closes (RunsFiles A script names reads) (with_reads reads before) (with_answer closed.written closed.answer middle) after status closed.written closed.answer
          (record { script = bytes; input_reads = read.0; inputs = inputs; script_first = refl; then_inputs = read.1; ends = closed.works })
          (shows_answer closed.written closed.answer (with_reads reads before) middle shown) closed.finishes,
    ))

-- a file cannot be read
pub misses : (A : Type 0) (script : Text) (names : List Text) (name : Text) (why : ReadFailure) (reads : List Read) (before after : Seen) (status : ℕ)
    → StopsAt (script ∷ names) reads name why → Tells (Some (unreadable_line name)) (with_reads reads before) after → status ≡ 3
    → RunsOrMisses A script names before after status
misses A script names name why reads before after status stops tells failed = inr (inr (failed, name, why, reads, stops, tells))

performs : (A : Type 0) (words : List Text) (reads : List Read) (before after : Seen) (status : ℕ) → Closes (Works A words reads) (with_reads reads before) after status
    → Performs A words before after status
performs A words reads before after status h =
    let ends = h.finishes in
    record {
      end = ended (end_of h.answer ends.flushed);
      told = ends.told;
      comes = (reads, h.written, h.answer, ends.flushed, h.works, refl, ends.tells);
      says = ends.says;
      status_is = ends.status_is;
    }

-- no file is read
performs_none : (A : Type 0) (words : List Text) (before middle after : Seen) (status : ℕ) (written : List ℕ) (answer : Result (Unit {0}) Stop)
    → Works A words [] written answer → Shows (with_answer written answer before) middle → Finishes answer middle after status → Performs A words before after status
performs_none A words before middle after status written answer works shown ends =
    performs A words [] before after status
    (closes (Works A words []) (with_reads [] before) middle after status written answer works
    (shows_on _ _ _ (shows_answer written answer (with_reads [] before) before (shows_nothing_read before)) shown) ends)

-- there is no memory before the first read
performs_starved : (A : Type 0) (words : List Text) (before after : Seen) (status : ℕ) → Finishes (Err (stop.NoResources 0)) before after status
    → Performs A words before after status
performs_starved A words before after status ends =
    performs_none A words before before after status [] (Err (stop.NoResources 0)) (inl (refl, (refl, refl))) (nothing_answered (Err (stop.NoResources 0)) before refl) ends

-- the files are read, and the script is run, or one of them cannot be read
pub performs_files : (A : Type 0) (words : List Text) (script : Text) (inputs : List Text) (before after : Seen) (status : ℕ)
    → fault_of cvl words ≡ [] → script_given words ≡ Some script → inputs ≡ inputs_given words
    → RunsOrMisses A script inputs before after status → Performs A words before after status
performs_files A words script inputs before after status taken named given (inl ends) = performs_starved A words before after status ends
performs_files A words script inputs before after status taken named given (inr (inl h)) =
    let closed = h.1 in
    performs A words h.0 before after status (record {
      written = closed.written;
      answer = closed.answer;
      works = inr (inr (taken, script, named, rw (← given) closed.works));
      finishes = closed.finishes;
    })
performs_files A words script inputs before after status taken named given (inr (inr (failed, name, why, reads, stops, tells))) = record {
  end = unreadable name why;
  told = Some (unreadable_line name);
  comes = (taken, script, named, reads, rw (← given) stops, tells);
  says = refl;
  status_is = failed;
}
