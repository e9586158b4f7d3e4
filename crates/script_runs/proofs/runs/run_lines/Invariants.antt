use Rattle.std.proofs.Common.{◌≡◌, ◌+◌, ◌≤◌, length}
use Rattle.std.specs.Option.{option_copied}
use Rattle.script_runs.specs.LinesLeft.{lines_left, bytes_left}
use Rattle.script_runs.specs.Meaning.{from_line, lines_of, names_left}
use Rattle.script_runs.proofs.Underway.{IsUnderway}
use Rattle.script_runs.proofs.runs.run_lines.Given as goal

-- a line has a byte or stands after one, so the number of a line is bounded by the script's bytes
abbrev pub invariant-loop-rest : goal.invariant-loop-rest
invariant-loop-rest g l =
    record {
      underway : IsUnderway
          (from_line 1 l.initial.session.names l.initial.session.inputs (lines_of l.script))
          (from_line l.number l.session.names l.session.inputs (lines_left (option_copied l.rest)))
          l.number (g.S.Sink.seen l.initial.sink) (g.S.Sink.seen l.sink);
      names : names_left l.initial.session.names l.initial.session.inputs (lines_of l.script)
          ≡ names_left l.session.names l.session.inputs (lines_left (option_copied l.rest));
      inputs : l.session.inputs ≡ l.initial.session.inputs;
      numbers : l.number + bytes_left (option_copied l.rest) ≤ length l.script + 2;
    }

abbrev pub decreases-loop-rest : goal.decreases-loop-rest
decreases-loop-rest g l = bytes_left (option_copied l.rest)
