-- A script of which some lines have run, and what its next line makes of it.
use Rattle.std.proofs.Common.{◌≡◌, ℕ, ◌+◌, ◌-◌, ◌≤◌, ◌==◌, List, [], ◌∷◌, ◌++◌, length, Option, Some, None, unwrap_or, option_map, Result, Ok, Err, false, refl, ap, sym, ◌∙◌, arith}
use Rattle.std.specs.List.{concat}
use Rattle.std.proofs.lemmas.List.{append-nil, append_assoc, length-append}
use Rattle.std.proofs.lemmas.List.Folds.{concat-append}
use Rattle.std.proofs.lemmas.Bool.{ne_eqb}
use Rattle.std.proofs.lemmas.Option.{unwrap_or-slice_get}
use Rattle.std.proofs.Math.Seq.{take-append_seam, get_or-append_seam}
use Rattle.cvl_base.specs.declared.fault.Fault.{Fault}
use Rattle.cvl_base.specs.declared.refused.Refused.{Refused}
use Rattle.cvl_base.specs.declared.refused.Refused.TheVariants as refused
use Rattle.vector_handles.specs.declared.input.Input.{Input}
use Rattle.vector_handles.specs.Names.{Entries}
use Rattle.vector_handles.specs.Steps.{Stepped}
use Rattle.script_runs.specs.declared.stop.Stop.{Stop}
use Rattle.script_runs.specs.declared.stop.Stop.TheVariants as stop
use Rattle.script_runs.specs.Ends.{AtEnd, AtFault, Runs, EndsAs, Reaches, line_text}
use Rattle.script_runs.specs.Hosts.{Seen, Shows, with_output}
use Rattle.script_runs.specs.LineRuns.{LineRuns, LineEndsAs, refused_at, text_of_step}
use Rattle.script_runs.specs.Meaning.{Meaning, after_line, from_line, line_step, names_after_line, names_left}
use Rattle.script_runs.proofs.Shown.{answer_both, nothing_answered, output_ok, shows_nothing_put}

-- the texts of the lines before this number are in the sink, and what is left means the rest
pub record IsUnderway (m rest : Meaning) (number : ℕ) (before after : Seen) : Type 0 where
  pub done : List (List ℕ)
  pub counted : number ≡ length done + 1
  pub texts : m.texts ≡ done ++ rest.texts
  pub stop : m.stop ≡ rest.stop
  pub shown : Shows (with_output (concat done) before) after

pub begins : (m : Meaning) (before : Seen) → IsUnderway m m 1 before before
begins m before =
    record { done = []; counted = refl; texts = refl; stop = refl; shown = shows_nothing_put before }

-- a stop, where there is one, at this line or after it
abbrev pub IsFrom : ℕ → Option (ℕ × Fault) → Type 0
IsFrom number None = Unit {0}
IsFrom number (Some stop) = number ≤ stop.0

from_before : (number : ℕ) (stop : Option (ℕ × Fault)) → IsFrom (number + 1) stop → IsFrom number stop
from_before number None h = tt
from_before number (Some stop) h = omega arith

module _ {A : Type 0} where
  stops_from_step : (number : ℕ) (step : Result (Stepped A) Fault) (rest : Entries A → Meaning) → ((names : Entries A) → IsFrom (number + 1) (rest names).stop)
      → IsFrom number (after_line number step rest).stop
  stops_from_step number (Err f) rest h = omega arith
  stops_from_step number (Ok stepped) rest h = from_before number (rest stepped.names).stop (h stepped.names)

  pub stops_from : (number : ℕ) (names : Entries A) (inputs : List (Input A)) (lines : List (List ℕ)) → IsFrom number (from_line number names inputs lines).stop
  stops_from number names inputs [] = tt
  stops_from number names inputs (line ∷ lines) =
      stops_from_step number (line_step names inputs line) (λ after. from_line (number + 1) after inputs lines)
      (λ after. stops_from (number + 1) after inputs lines)

-- a line that is reached with texts before it, where what follows may stop after it
reached_with : (number : ℕ) (stop : Option (ℕ × Fault)) (count : ℕ) → IsFrom number stop → number ≤ count → number ≤ unwrap_or (option_map (λ s. s.0) stop) count
reached_with number None count h more = more
reached_with number (Some stop) count h more = h

-- the text of the line after those that are done
text_at : (m : Meaning) (done : List (List ℕ)) (text : List ℕ) (others : List (List ℕ)) (line : ℕ) → line ≡ length done + 1 → m.texts ≡ done ++ text ∷ others → line_text m line ≡ text
text_at m done text others line e texts =
    let numbered : (line == 0) ≡ false = ne_eqb line 0 (λ none. absurd (omega arith)) in
    let place : line - 1 ≡ length done = omega arith in
    rw (numbered, place, texts, unwrap_or-slice_get, get_or-append_seam) refl

module _ {A : Type 0} where
  reaches_step : (number : ℕ) (step : Result (Stepped A) Fault) (rest : Entries A → Meaning) (count : ℕ) → ((names : Entries A) → IsFrom (number + 1) (rest names).stop) → number ≡ count + 1
      → number ≤ unwrap_or (option_map (λ s. s.0) (after_line number step rest).stop) (count + length (after_line number step rest).texts)
  reaches_step number (Err f) rest count later e = omega arith
  reaches_step number (Ok stepped) rest count later e =
      reached_with number (rest stepped.names).stop (count + length (text_of_step stepped ∷ (rest stepped.names).texts))
      (from_before number (rest stepped.names).stop (later stepped.names)) (omega arith)

  reaches : (m : Meaning) (number : ℕ) (step : Result (Stepped A) Fault) (rest : Entries A → Meaning) (before middle : Seen) → ((names : Entries A) → IsFrom (number + 1) (rest names).stop)
      → IsUnderway m (after_line number step rest) number before middle → Reaches m number
  reaches m number step rest before middle later u =
      rw (u.stop, u.texts, length-append) (reaches_step number step rest (length u.done) later u.counted)

  -- the line has run, and its text is in the sink
  pub went_on : (m : Meaning) (number : ℕ) (names : Entries A) (step : Result (Stepped A) Fault) (rest : Entries A → Meaning) (before middle after : Seen)
      → IsUnderway m (after_line number step rest) number before middle → LineRuns number step names middle after (Ok tt) → IsUnderway m (rest names) (number + 1) before after
  went_on m number names step rest before middle after u ran =
      let ends = ran.ends in
      let text = text_of_step ends.0 in
      let e : concat u.done ++ ran.written ≡ concat (u.done ++ text ∷ []) =
      rw (concat-append, append-nil) (ap (λ written. concat u.done ++ written) ends.3) in
      let texts : m.texts ≡ u.done ++ text ∷ (rest names).texts = rw ends.2 (rw ends.1 at u.texts) in
      let shown = answer_both (concat u.done) ran.written (Ok tt) before middle after u.shown ran.shown in
      record {
        done = u.done ++ text ∷ [];
        counted = rw length-append (omega (arith, u.counted));
        texts = texts ∙ sym (append_assoc u.done (text ∷ []) (rest names).texts);
        stop = rw ends.2 (rw ends.1 at u.stop);
        shown = output_ok _ _ _ (rw e at shown);
      }

  ends_as : (m : Meaning) (number : ℕ) (names : Entries A) (step : Result (Stepped A) Fault) (rest : Entries A → Meaning) (before middle : Seen) (written : List ℕ) (why : Stop)
      → ((after : Entries A) → IsFrom (number + 1) (rest after).stop) → (u : IsUnderway m (after_line number step rest) number before middle) → LineEndsAs number step names written (Err why)
      → EndsAs m (concat u.done ++ written) (Err why)
  ends_as m number names step rest before middle written (stop.Script line f) later u ends =
      let texts : m.texts ≡ u.done = (rw ends.1 at u.texts) ∙ append-nil u.done in
      (rw ends.0 (rw ends.1 at u.stop), rw (ends.2, append-nil, texts) refl)
  ends_as m number names step rest before middle written (stop.NoResources line) later u ends =
      let place : line - 1 ≡ length u.done = omega (arith, ends.0, u.counted) in
      record {
        reached = rw ends.0 (reaches m number step rest before middle later u);
        beginning = (0, rw (ends.1, place, u.texts, take-append_seam) refl);
      }
  ends_as m number names step rest before middle written (stop.WriteFailed line) later u ends =
      let text = text_of_step ends.1.0 in
      let place : line - 1 ≡ length u.done = omega (arith, ends.0, u.counted) in
      let texts : m.texts ≡ u.done ++ text ∷ (rest ends.1.0.names).texts = rw ends.1.2 at u.texts in
      let own : line_text m line ≡ text = text_at m u.done text (rest ends.1.0.names).texts line (ends.0 ∙ u.counted) texts in
      record {
        reached = rw ends.0 (reaches m number step rest before middle later u);
        beginning = (ends.1.1, rw own ends.1.3, rw (own, ends.1.4, place, u.texts, take-append_seam) refl);
      }

  -- the run ended at the line
  pub stopped : (m : Meaning) (number : ℕ) (names : Entries A) (step : Result (Stepped A) Fault) (rest : Entries A → Meaning) (before middle after : Seen) (why : Stop)
      → ((names : Entries A) → IsFrom (number + 1) (rest names).stop) → IsUnderway m (after_line number step rest) number before middle → LineRuns number step names middle after (Err why)
      → Runs m before after (Err why)
  stopped m number names step rest before middle after why later u ran =
      record {
        written = concat u.done ++ ran.written;
        ends = ends_as m number names step rest before middle ran.written why later u ran.ends;
        shown = answer_both (concat u.done) ran.written (Err why) before middle after u.shown ran.shown;
      }

  -- the line has run, and the others go on from the names that it leaves
  pub left_on : (number : ℕ) (names after : Entries A) (inputs : List (Input A)) (line : List ℕ) (others : List (List ℕ)) (before middle : Seen)
      → LineRuns number (line_step names inputs line) after before middle (Ok tt) → names_left names inputs (line ∷ others) ≡ names_left after inputs others
  left_on number names after inputs line others before middle ran =
      let ends = ran.ends in
      ap (λ r. names_after_line names r (λ next. names_left next inputs others)) ends.1
      ∙ ap (λ next. names_left next inputs others) (sym ends.2)

  -- a line with a fault is the last that runs, and leaves the names as they were
  pub left_at_stop : (number : ℕ) (names after left : Entries A) (inputs : List (Input A)) (line : List ℕ) (others : List (List ℕ)) (before middle : Seen) (why : Stop)
      → left ≡ names_left names inputs (line ∷ others) → LineRuns number (line_step names inputs line) after before middle (Err why) → AtFault (Err why) (after ≡ names)
      → AtEnd (Err why) (after ≡ left)
  left_at_stop number names after left inputs line others before middle (stop.Script at f) is ran kept =
      let ends = ran.ends in
      kept ∙ sym (is ∙ ap (λ r. names_after_line names r (λ next. names_left next inputs others)) ends.1)
  left_at_stop number names after left inputs line others before middle (stop.NoResources at) is ran kept = tt
  left_at_stop number names after left inputs line others before middle (stop.WriteFailed at) is ran kept = tt

  -- the line's read or call is refused
  pub refused_line : (number : ℕ) (why : Refused) (meaning : Result (Stepped A) Fault) (names : Entries A) (s : Seen) → ((f : Fault) → why ≡ refused.Fault f → meaning ≡ Err f)
      → LineRuns number meaning names s s (Err (refused_at number why))
  refused_line number (refused.Fault f) meaning names s is =
      record { written = []; ends = (refl, is f refl, refl); shown = nothing_answered (Err (stop.Script number f)) s refl }
  refused_line number refused.NoResources meaning names s is =
      record { written = []; ends = (refl, refl); shown = nothing_answered (Err (stop.NoResources number)) s refl }

-- what a refused line keeps it keeps at a fault
pub at_fault : (number : ℕ) (why : Refused) (claim : Type 0) → claim → AtFault (Err (refused_at number why)) claim
at_fault number (refused.Fault f) claim holds = holds
at_fault number refused.NoResources claim holds = tt

-- memory is refused before the first line
pub refused_first : (m : Meaning) (s : Seen) → Runs m s s (Err (stop.NoResources 0))
refused_first m s = record {
  written = [];
  ends = record { reached = omega arith; beginning = (0, refl) };
  shown = nothing_answered (Err (stop.NoResources 0)) s refl;
}
