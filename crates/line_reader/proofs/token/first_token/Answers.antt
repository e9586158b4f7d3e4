use Rattle.line_reader.proofs.Cited.{◌≡◌, sym, ap, ◌∙◌, false}
use Rattle.line_reader.specs.Tokens.{begins_with_blank}
use Rattle.line_reader.proofs.TokenWalk.{run_taken, lone_taken}
use Rattle.line_reader.proofs.token.first_token.Goals as goal
use Rattle.line_reader.proofs.token.first_token.Goals.{in-InToken, in-Alone}

pub returns-clause-tokens : goal.returns-clause-tokens
returns-clause-tokens g c =
    let class_of = g.C.Classes.class_of in
    let behind = c.split_at.result.1.now in
    let stands : begins_with_blank class_of behind ≡ false = ap (begins_with_blank class_of) c.split_at.ensures.back ∙ c.blanks.ensures.longest in
    elim c.match-class_of.branch [
      | in-InToken w ↦
          let t = run_taken class_of behind _ _ w.run_length-length.result c.in_ok-first.ensures.cases.0 (sym c.class_of.ensures ∙ w.in-InToken.is)
          w.run_length-length.ensures.run w.run_length-length.ensures.longest in
          cc
      | in-Alone w ↦
          let t = lone_taken class_of behind _ _ c.in_ok-first.ensures.cases.0 stands (rw c.class_of.ensures at w.in-Alone.is) in
          cc
    ]
