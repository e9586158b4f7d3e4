use Rattle.line_reader.proofs.Cited.{◌≡◌, length, ◌+◌, ◌≤◌, list_all}
use Rattle.line_reader.specs.Lines.{line_tokens}
use Rattle.line_reader.proofs.line_tokens.count_passing.Given as goal

abbrev pub invariant-loop-token : goal.invariant-loop-token
invariant-loop-token g l = record {
  counted : l.count + length (line_tokens l.rest) ≡ length (line_tokens l.fn.bytes);
  passed : list_all g.T.TokenTest.passes (line_tokens l.fn.bytes) ≡ list_all g.T.TokenTest.passes (line_tokens l.rest);
  few : l.count + length l.rest ≤ length l.fn.bytes;
}

abbrev pub decreases-loop-token : goal.decreases-loop-token
decreases-loop-token g l = length l.rest
