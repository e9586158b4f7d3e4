use Rattle.std.proofs.Common.{◌+◌, ◌∙◌, refl, sym, ap, arith}
use Rattle.std.specs.Option.{option_copied}
use Rattle.std.proofs.lemmas.Result.{err_from_is_err_and}
use Rattle.script_runs.specs.LinesLeft.{lines_left}
use Rattle.script_runs.specs.Meaning.{names_left}
use Rattle.script_runs.proofs.Underway.{begins, left_at_stop, left_on, went_on, stopped, stops_from}
use Rattle.script_runs.proofs.runs.run_lines.Goals as goal

pub loop-rest-init : goal.loop-rest-init
loop-rest-init g c = record { underway = begins _ _; names = refl; inputs = refl; numbers = omega arith }

pub returns-in_err-run_line-clause-runs : goal.returns-in_err-run_line-clause-runs
returns-in_err-run_line-clause-runs g c =
    let p = err_from_is_err_and c.from_residual.result c.from_residual.ensures.1 in
    rw (p.1, p.2)
    (stopped _ _ _ _ _ _ _ _ _
    (λ names. stops_from (c.loop-rest.number + 1) names c.loop-rest.session.inputs (lines_left (option_copied c.next_line.result.1)))
    (rw (c.in-Some.is, c.next_line.ensures.lines) at c.loop-rest.invariant.underway)
    c.in_err-run_line.ensures.runs)

pub returns-in_err-run_line-clause-names : goal.returns-in_err-run_line-clause-names
returns-in_err-run_line-clause-names g c =
    let p = err_from_is_err_and c.from_residual.result c.from_residual.ensures.1 in
    rw (p.1, p.2)
    (left_at_stop c.loop-rest.number c.loop-rest.session.names c.run_line.new.session.names _ c.loop-rest.session.inputs c.next_line.result.0.now
    (lines_left (option_copied c.next_line.result.1)) _ _ _
    (rw (c.in-Some.is, c.next_line.ensures.lines) at c.loop-rest.invariant.names)
    c.in_err-run_line.ensures.runs c.in_err-run_line.ensures.refused)

pub loop-rest-preserved : goal.loop-rest-preserved
loop-rest-preserved g c =
    let numbers = rw c.in-Some.is at c.loop-rest.invariant.numbers in
    let others = lines_left (option_copied c.next_line.result.1) in
    record {
      underway = rw c.in_ok-run_line.ensures.inputs
          (went_on _ _ _ _ _ _ _ _ (rw (c.in-Some.is, c.next_line.ensures.lines) at c.loop-rest.invariant.underway)
          c.in_ok-run_line.ensures.runs);
      names = (rw (c.in-Some.is, c.next_line.ensures.lines) at c.loop-rest.invariant.names)
          ∙ left_on c.loop-rest.number c.loop-rest.session.names c.run_line.new.session.names c.loop-rest.session.inputs c.next_line.result.0.now others _ _ c.in_ok-run_line.ensures.runs
          ∙ ap (λ inputs. names_left c.run_line.new.session.names inputs others) (sym c.in_ok-run_line.ensures.inputs);
      inputs = c.in_ok-run_line.ensures.inputs ∙ c.loop-rest.invariant.inputs;
      numbers = omega (arith, numbers, c.next_line.ensures.shorter);
    }
