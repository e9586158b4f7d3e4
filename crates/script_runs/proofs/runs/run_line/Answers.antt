use Rattle.std.proofs.Common.{rules, ◌≡◌, ◌∙◌, IfOk, None, Some, Ok, refl, ap, subst}
use Rattle.cvl_base.specs.Gives.{◌>>=◌}
use Rattle.line_reader.specs.Lines.{call_of}
use Rattle.vector_handles.specs.Answers.{left_by}
use Rattle.vector_handles.specs.Sessions.{text_shown}
use Rattle.vector_handles.specs.Steps.{step}
use Rattle.script_runs.specs.Meaning.{call_step}
use Rattle.script_runs.proofs.LinePuts.{silent_line}
use Rattle.script_runs.proofs.Underway.{at_fault, refused_line}
use Rattle.script_runs.proofs.runs.run_line.Goals as goal

pub returns-in-Err-clause-runs : goal.returns-in-Err-clause-runs
returns-in-Err-clause-runs g c =
    let names = c.args.session.now.names in
    let inputs = c.args.session.now.inputs in
    rw c.stop_of.ensures
    (refused_line c.args.number c.in-Err.refused _ _ _ (λ f is. ap (λ r. r >>= call_step names inputs) (rw is at c.in-Err.ensures)))

pub returns-in-Err-clause-refused : goal.returns-in-Err-clause-refused
returns-in-Err-clause-refused g c =
    rw c.stop_of.ensures (at_fault c.args.number c.in-Err.refused _ refl)

pub returns-in-Ok-None-clause-runs : goal.returns-in-Ok-None-clause-runs
returns-in-Ok-None-clause-runs g c =
    let none : call_of c.args.line.now ≡ Ok None = search rules in
    silent_line c.args.number _ (record { names = c.args.session.now.names; shown = None }) _
    (ap (λ r. r >>= call_step c.args.session.now.names c.args.session.now.inputs) none) refl

pub returns-in-Ok-clause-runs : goal.returns-in-Ok-clause-runs
returns-in-Ok-clause-runs g c =
    let names = c.args.session.now.names in
    let inputs = c.args.session.now.inputs in
    let call = c.in-Ok-Some.call in
    let is_call : call_of c.args.line.now ≡ Ok (Some call) = search rules in
    let nothing : IfOk (step names inputs call) (λ stepped. stepped.shown ≡ None) = search rules in
    silent_line c.args.number _ (left_by c.apply_gated.new.self (text_shown c.in-Ok.field-0)) _
    (ap (λ r. r >>= call_step names inputs) is_call ∙ c.in-Ok.ensures.meaning)
    (subst (λ m. IfOk m (λ stepped. stepped.shown ≡ None)) c.in-Ok.ensures.meaning nothing)

pub returns-clause-runs : goal.returns-clause-runs
returns-clause-runs g c =
    let names = c.args.session.now.names in
    let inputs = c.args.session.now.inputs in
    let is_call : call_of c.args.line.now ≡ Ok (Some c.in-Ok-Some.call) = search rules in
    rw c.stop_of-in-Err-apply_gated.ensures
    (refused_line c.args.number c.in-Err-apply_gated.refused _ _ _
    (λ f is. ap (λ r. r >>= call_step names inputs) is_call ∙ (rw is at c.in-Err-apply_gated.ensures.meaning)))
