use Rattle.line_reader.proofs.Cited.{◌≡◌, length}
use Rattle.line_reader.specs.Lines.{args_of, line_tokens}
use Rattle.line_reader.proofs.Arguments.{behind}
use Rattle.line_reader.proofs.args.read_args.Given as goal

abbrev pub invariant-loop-token : goal.invariant-loop-token
invariant-loop-token g l = args_of (line_tokens l.fn.bytes) ≡ behind l.args.items (line_tokens l.rest)

abbrev pub decreases-loop-token : goal.decreases-loop-token
decreases-loop-token g l = length l.rest
