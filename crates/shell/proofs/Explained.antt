-- How an explanation follows what the program does without it.
use Rattle.std.proofs.Common.{◌≡◌, ◌∙◌, ℕ, ◌≤◌, ◌<◌, Bool, true, false, List, [], ◌∷◌, Option, Some, None, Result, Ok, Err, Vec, IfOk, length, refl, inl, inr, ap, subst}
use Rattle.std.proofs.lemmas.Bool.{le-ltb, lt-ltb}
use Rattle.clap.specs.Words.{IsAmong, Text, fault_of}
use Rattle.clap.specs.declared.error.kind.ErrorKind.{ErrorKind}
use Rattle.command_line.specs.Command.{cvl}
use Rattle.command_line.specs.Reads.{inputs_given, script_given}
use Rattle.cvl_base.specs.declared.fault.Fault.{Fault}
use Rattle.cvl_base.specs.declared.fault.FaultNo.TheVariants.{ScriptTooLong}
use Rattle.cvl_base.specs.Faults.{fault}
use Rattle.cvl_base.specs.Limits.{most_script_bytes}
use Rattle.vector_handles.specs.Names.{Entries}
use Rattle.vector_handles.specs.declared.input.Input.{Input}
use Rattle.script_runs.specs.Ends.{AtEnd, AtFault, EndsAs, Runs, failures_in, with_answer}
use Rattle.script_runs.specs.Hosts.{Read, Seen, Shows, Tells, read_of, with_flush, with_reads}
use Rattle.script_runs.specs.Meaning.{from_line, lines_of, meaning, names_left}
use Rattle.script_runs.specs.declared.read_failure.ReadFailure.{ReadFailure}
use Rattle.script_runs.specs.declared.stop.Stop.{Stop}
use Rattle.script_runs.specs.declared.stop.Stop.TheVariants as stop
use Rattle.script_runs.proofs.Shown.{nothing_answered, reads_both, shows_answer, shows_flush, shows_nothing_read, shows_on, shows_same, tells_after}
use Rattle.explanations.specs.Explained.{explained, names_of_script}
use Rattle.shell.specs.ProgramParts.{ClosesAndExplains, EndsBy, ExplainsFiles, Finishes, MissesAndExplains, PutsShown, ReadsInputs, RunsAndExplains, RunsOrMisses, StarvesAndExplains, text_or_line}
use Rattle.shell.specs.Programs.{ExplainsStop, ExplainsWork, IsAsked, Says, SaysWhy, Performs, PerformsAndExplains, PerformsAsAsked, StopsAt, Works}
use Rattle.shell.specs.Programs.{end_of, ended, refused, status_of, unreadable, unreadable_line}
use Rattle.shell.proofs.Performed.{finishes_after}

-- ---- runs

module _ {A : Type 0} (script : List ℕ) (inputs : List (Input A)) where
  -- a script that is not too long is run from its first line on, with no name bound
  pub runs_meaning : (names : Entries A) (before after : Seen) (answer : Result (Unit {0}) Stop) → length script ≤ most_script_bytes → names ≡ []
      → Runs (from_line 1 names inputs (lines_of script)) before after answer → Runs (meaning script inputs) before after answer
  runs_meaning names before after answer within unbound runs = rw (le-ltb most_script_bytes (length script) within) (rw unbound at runs)

  pub leaves_names : (names left : Entries A) (answer : Result (Unit {0}) Stop) → length script ≤ most_script_bytes → names ≡ []
      → AtEnd answer (left ≡ names_left names inputs (lines_of script)) → AtEnd answer (left ≡ names_of_script script inputs)
  leaves_names names left answer within unbound leaves = rw (le-ltb most_script_bytes (length script) within) (rw unbound at leaves)

  -- one that is too long ends before its first line
  pub ends_too_long : most_script_bytes < length script → EndsAs (meaning script inputs) [] (Err (stop.Script 0 (fault ScriptTooLong)))
  ends_too_long long = rw (lt-ltb most_script_bytes (length script) long) (refl, refl)

module _ {A : Type 0} (names left : Entries A) (files : List Text) (inputs : List (Input A)) (script : List ℕ) where
  -- only a fault is explained by the names
  at_stop : (why : Stop) → AtFault (Err why) (names ≡ left) → explained names files inputs script why ≡ explained left files inputs script why
  at_stop (stop.Script line f) same = ap (λ (ns : Entries A). explained ns files inputs script (stop.Script line f)) same
  at_stop (stop.NoResources line) same = refl
  at_stop (stop.WriteFailed line) same = refl

  pub same_explained : (answer : Result (Unit {0}) Stop) (flushed : Bool) (why : Stop) → AtEnd answer (names ≡ left)
      → Some why ≡ end_of answer flushed → explained names files inputs script why ≡ explained left files inputs script why
  same_explained (Err w) flushed why same is =
      let e : w ≡ why = cc in
      subst (λ (x : Stop). explained names files inputs script x ≡ explained left files inputs script x) e (at_stop w same)
  same_explained (Ok done) true why same is = cc
  same_explained (Ok done) false why same is =
      let e : stop.WriteFailed 0 ≡ why = cc in
      subst (λ (x : Stop). explained names files inputs script x ≡ explained left files inputs script x) e (at_stop (stop.WriteFailed 0) tt)

-- ---- what is told

-- the explanation of a script's fault, or the line in its place
pub text_told : {A E : Type 0} (line : ℕ) (f : Fault) (text : Result (Vec ℕ A) E) (explanation : List ℕ) → IfOk text (λ t. t.items ≡ explanation)
    → SaysWhy (stop.Script line f) explanation (Some (text_or_line text))
text_told line f (Ok text) explanation is = inr (ap Some is)
text_told line f (Err why) explanation is = inl refl

module _ {A : Type 0} (files : List Text) (script : List ℕ) (inputs : List (Input A)) where
  -- the script was run, and its end is explained
  pub closes_and_explains : (before middle mid after : Seen) (status : ℕ) (written : List ℕ) (answer : Result (Unit {0}) Stop) (end : Option Stop)
      (told : Option (List ℕ)) → EndsAs (meaning script inputs) written answer → Shows (with_answer written answer before) middle
      → EndsBy answer middle mid end → status ≡ status_of (ended end) → ExplainsStop files script inputs end told → Tells told mid after
      → ClosesAndExplains A files script inputs before after status
  closes_and_explains before middle mid after status written answer end told works shown ends is explains tells =
      record {
        mid = mid;
        closes = record {
          written = written;
          answer = answer;
          works = works;
          finishes = record {
            flushed = ends.flushed;
            told = ends.told;
            says = subst (λ (e : Option Stop). Says (ended e) ends.told) ends.end_is ends.says;
            status_is = is ∙ ap (λ (e : Option Stop). status_of (ended e)) ends.end_is;
            tells = tells_after ends.told (with_flush ends.flushed (with_answer written answer before)) (with_flush ends.flushed middle) mid
                (shows_flush ends.flushed (with_answer written answer before) middle shown) ends.tells;
          };
        };
        told = told;
        explains = subst (λ (e : Option Stop). ExplainsStop files script inputs e told) ends.end_is explains;
        tells = tells;
      }

  -- the script was not run, which is explained
  pub stops_and_explains : (before mid after : Seen) (status : ℕ) (why : Stop) (told : Option (List ℕ)) → EndsAs (meaning script inputs) [] (Err why)
      → failures_in (Err why) ≡ 0 → Finishes (Err why) before mid status → ExplainsStop files script inputs (Some why) told → Tells told mid after
      → ClosesAndExplains A files script inputs before after status
  stops_and_explains before mid after status why told works none ends explains tells = record {
    mid = mid;
    closes = record {
      written = [];
      answer = Err why;
      works = works;
      finishes = finishes_after (Err why) (with_answer [] (Err why) before) before mid status (nothing_answered (Err why) before none) ends;
    };
    told = told;
    explains = explains;
    tells = tells;
  }

module _ {A : Type 0} where
  -- ---- files

  pub starved_explained : (script : Text) (names : List Text) (before after : Seen) (status : ℕ) → StarvesAndExplains before after status
      → RunsAndExplains A script names before after status
  starved_explained script names before after status h = record { mid = h.0; runs = inl h.1; told = Some _; explains = refl; tells = h.2 }

  pub missed_explained : (script : Text) (names : List Text) (name : Text) (why : ReadFailure) (reads : List Read) (before middle after : Seen) (status : ℕ)
      → StopsAt (script ∷ names) reads name why → Shows (with_reads reads before) middle → MissesAndExplains name why middle after → status ≡ 3
      → RunsAndExplains A script names before after status
  missed_explained script names name why reads before middle after status stops shown h failed =
      let line = tells_after (Some (unreadable_line name)) (with_reads reads before) middle h.0 shown h.1 in
      record { mid = h.0; runs = inr (inr (failed, name, why, reads, stops, line)); told = Some _; explains = refl; tells = h.2 }

  -- the script and its inputs are read, and it is run and explained
  pub files_explained : (script : Text) (names : List Text) (bytes : List ℕ) (inputs : List (Input A)) (before first middle after : Seen) (status : ℕ)
      → Shows (with_reads (read_of script (Ok bytes) ∷ []) before) first → ReadsInputs names first inputs middle
      → ClosesAndExplains A names bytes inputs middle after status → RunsAndExplains A script names before after status
  files_explained script names bytes inputs before first middle after status opened read h =
      let reads = read_of script (Ok bytes) ∷ read.0 in
      let shown = reads_both (read_of script (Ok bytes) ∷ []) read.0 before first middle opened read.2 in
      let closed = h.closes in
      record {
        mid = h.mid;
        runs = inr (inl (
          reads,
          record {
            written = closed.written;
            answer = closed.answer;
            works = record { script = bytes; input_reads = read.0; inputs = inputs; script_first = refl; then_inputs = read.1; ends = closed.works };
            finishes = record {
              flushed = closed.finishes.flushed;
              told = closed.finishes.told;
              says = closed.finishes.says;
              status_is = closed.finishes.status_is;
              tells = tells_after closed.finishes.told (with_flush closed.finishes.flushed (with_answer closed.written closed.answer (with_reads reads before)))
                  (with_flush closed.finishes.flushed (with_answer closed.written closed.answer middle)) h.mid
                  (shows_flush closed.finishes.flushed _ _ (shows_answer closed.written closed.answer (with_reads reads before) middle shown)) closed.finishes.tells;
            };
          },
        ));
        told = h.told;
        explains = h.explains;
        tells = h.tells;
      }

  -- ---- the program

  -- no file is read, and nothing is explained
  none_read : (words : List Text) (before middle after : Seen) (status : ℕ) (written : List ℕ) (answer : Result (Unit {0}) Stop)
      (works : Works A words [] written answer) → ((end : Option Stop) → ExplainsWork A words [] written answer works end None)
      → Shows (with_answer written answer before) middle → Finishes answer middle after status → PerformsAsAsked A words before after status
  none_read words before middle after status written answer works none shown ends =
      let whole = shows_on _ _ _ (shows_answer written answer (with_reads [] before) before (shows_nothing_read before)) shown in
      let f = finishes_after answer (with_answer written answer (with_reads [] before)) middle after status whole ends in
      let performs : Performs A words before after status = record {
        end = ended (end_of answer f.flushed);
        told = f.told;
        comes = ([], written, answer, f.flushed, works, refl, f.tells);
        says = f.says;
        status_is = f.status_is;
      } in
      record {
        plain = λ no. performs;
        explaining = λ yes. record { mid = after; performs = performs; told = None; explains = none (end_of answer f.flushed); tells = shows_same after };
      }

  -- there is no memory for the words
  pub asked_starved : (words : List Text) (before after : Seen) (status : ℕ) → Finishes (Err (stop.NoResources 0)) before after status
      → PerformsAsAsked A words before after status
  asked_starved words before after status ends =
      none_read words before before after status [] (Err (stop.NoResources 0)) (inl (refl, (refl, refl))) (λ end. inl refl)
      (nothing_answered (Err (stop.NoResources 0)) before refl) ends

  -- the help or the version is asked for
  pub asked_shown : (words : List Text) (before middle after : Seen) (status : ℕ) (answer : Result (Unit {0}) Stop) (kind : ErrorKind)
      → IsAsked kind → IsAmong kind (fault_of cvl words) → PutsShown before middle answer → Finishes answer middle after status
      → PerformsAsAsked A words before after status
  asked_shown words before middle after status answer kind asked among (written, inl none, shown) ends =
      none_read words before middle after status written answer (inl (refl, none)) (λ end. inl refl) shown ends
  asked_shown words before middle after status answer kind asked among (written, inr text, shown) ends =
      none_read words before middle after status written answer (inr (inl (refl, kind, asked, among, text))) (λ end. refl) shown ends

  -- the command line is refused
  pub asked_wrong : (words : List Text) (before after : Seen) (text : List ℕ) (kind : ErrorKind) → IsAmong kind (fault_of cvl words) → (IsAsked kind → ⊥)
      → Tells (Some text) before after → PerformsAsAsked A words before after 2
  asked_wrong words before after text kind among wrong tells =
      let performs : Performs A words before after 2 = record { end = refused; told = Some text; comes = (kind, among, wrong, tells); says = refl; status_is = refl } in
      record {
        plain = λ no. performs;
        explaining = λ yes. record { mid = after; performs = performs; told = None; explains = refl; tells = shows_same after };
      }

  pub performs_explaining : (words : List Text) (script : Text) (before after : Seen) (status : ℕ) → fault_of cvl words ≡ [] → script_given words ≡ Some script
      → RunsAndExplains A script (inputs_given words) before after status → PerformsAndExplains A words before after status
  performs_explaining words script before after status taken named h = go h.runs h.explains
    where
      go : (runs : RunsOrMisses A script (inputs_given words) before h.mid status) → ExplainsFiles A script (inputs_given words) before h.mid status runs h.told
          → PerformsAndExplains A words before after status
      go (inl ends) explains =
          let whole = shows_on _ _ _ (shows_answer [] (Err (stop.NoResources 0)) (with_reads [] before) before (shows_nothing_read before))
          (nothing_answered (Err (stop.NoResources 0)) before refl) in
          let f = finishes_after (Err (stop.NoResources 0)) (with_answer [] (Err (stop.NoResources 0)) (with_reads [] before)) before h.mid status whole ends in
          record {
            mid = h.mid;
            performs = record {
              end = ended (end_of (Err (stop.NoResources 0)) f.flushed);
              told = f.told;
              comes = ([], [], Err (stop.NoResources 0), f.flushed, inl (refl, (refl, refl)), refl, f.tells);
              says = f.says;
              status_is = f.status_is;
            };
            told = h.told;
            explains = inr explains;
            tells = h.tells;
          }
      go (inr (inr (failed, name, why, reads, stops, tells))) explains = record {
        mid = h.mid;
        performs = record {
          end = unreadable name why;
          told = Some (unreadable_line name);
          comes = (taken, script, named, reads, stops, tells);
          says = refl;
          status_is = failed;
        };
        told = h.told;
        explains = explains;
        tells = h.tells;
      }
      go (inr (inl (reads, closed))) explains = record {
        mid = h.mid;
        performs = record {
          end = ended (end_of closed.answer closed.finishes.flushed);
          told = closed.finishes.told;
          comes = (reads, closed.written, closed.answer, closed.finishes.flushed, inr (inr (taken, script, named, closed.works)), refl, closed.finishes.tells);
          says = closed.finishes.says;
          status_is = closed.finishes.status_is;
        };
        told = h.told;
        explains = explains;
        tells = h.tells;
      }
