use Rattle.std.specs.Option.{option_copied}
use Rattle.script_runs.specs.LinesLeft.{lines_left}
use Rattle.explanations.proofs.Walks.{line_bound, line_passed}
use Rattle.explanations.proofs.bindings.stopped_at.Goals as goal

pub loop-number-preserved : goal.loop-number-preserved
loop-number-preserved g c =
    let others = lines_left (option_copied c.next_line.result.1) in
    record {
      bindings = line_bound g.row.A.Denot c.loop-number.number c.args.line c.next_line.result.0.now others _ _ _
          (rw (c.in-Some.is, c.next_line.ensures.lines) at c.loop-number.invariant.bindings) c.loop-number-test.true c.in_ok-put_bindings.ensures;
      line = line_passed c.loop-number.number c.args.line c.next_line.result.0.now others _
          (rw (c.in-Some.is, c.next_line.ensures.lines) at c.loop-number.invariant.line) c.loop-number-test.true;
    }
