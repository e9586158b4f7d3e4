use Rattle.line_reader.proofs.Cited.{◌≡◌, drop}
use Rattle.line_reader.specs.Tokens.{tokens_by}
use Rattle.line_reader.proofs.token.blanks.Given as goal

abbrev pub invariant-loop-i : goal.invariant-loop-i
invariant-loop-i g l = tokens_by g.C.Classes.class_of (drop l.i l.bytes) ≡ tokens_by g.C.Classes.class_of l.bytes
