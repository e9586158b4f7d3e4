use Rattle.std.proofs.Common.{◌≡◌, ◌++◌, ◌-◌, slice_get, take}
use Rattle.std.specs.Option.{option_copied}
use Rattle.script_runs.specs.LinesLeft.{lines_left}
use Rattle.script_runs.specs.Meaning.{lines_of}
use Rattle.explanations.specs.Bindings.{bound_before, bound_from}
use Rattle.explanations.proofs.bindings.stopped_at.Given as goal

-- the lines that are left bind the rest, and the line is among them
abbrev pub invariant-loop-number : goal.invariant-loop-number
invariant-loop-number g l =
    record {
      bindings : l.bindings.items ++ bound_from g.row.A.Denot l.number (take (l.line - l.number) (lines_left (option_copied l.rest)))
          ≡ bound_before g.row.A.Denot l.fn.script l.line;
      line : slice_get (lines_left (option_copied l.rest)) (l.line - l.number) ≡ slice_get (lines_of l.fn.script) (l.line - 1);
    }
