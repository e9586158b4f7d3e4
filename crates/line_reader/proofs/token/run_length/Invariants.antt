use Rattle.line_reader.proofs.Cited.{◌≡◌, take, true, list_all}
use Rattle.line_reader.specs.Tokens.{is_in_token}
use Rattle.line_reader.proofs.token.run_length.Given as goal

abbrev pub invariant-loop-i : goal.invariant-loop-i
invariant-loop-i g l = list_all (λ b. is_in_token (g.C.Classes.class_of b)) (take l.i l.bytes) ≡ true
