use Rattle.std.proofs.Common.{◌≡◌, ◌+◌, ◌∷◌, ◌∙◌, drop, take, false, sym, ap}
use Rattle.line_reader.specs.Tokens.{begins_with_blank}
use Rattle.explained_calls.specs.PlacedTokens.{placed, placed_by}
use Rattle.explained_calls.proofs.PlacedWalk.{lone_taken_placed, placed_behind, run_taken_placed}
use Rattle.explained_calls.proofs.placed_tokens.next_token.Goals as goal
use Rattle.explained_calls.proofs.placed_tokens.next_token.Goals.{in-InToken, in-Alone}

pub returns-clause-tokens : goal.returns-clause-tokens
returns-clause-tokens g c =
    let class_of = g.C.Classes.class_of in
    let start = c.after_blanks-start.result in
    let rest = c.split_at.result.1.now in
    let n = c.match-class_of.length in
    let stands : begins_with_blank class_of rest ≡ false = ap (begins_with_blank class_of) c.split_at.ensures.back ∙ c.after_blanks-start.ensures.longest in
    let taken : placed_by class_of start rest ≡ placed start (take n rest) ∷ placed_by class_of (start + n) (drop n rest) =
    elim c.match-class_of.branch [
      | in-InToken w ↦
          rw w.length-is
          (run_taken_placed class_of start rest _ _ w.run_length-length.result c.in_ok-first.ensures.cases.0 (sym c.class_of.ensures ∙ w.in-InToken.is)
          w.run_length-length.ensures.within w.run_length-length.ensures.run w.run_length-length.ensures.longest)
      | in-Alone w ↦
          rw w.length-is
          (lone_taken_placed class_of start rest _ _ c.in_ok-first.ensures.cases.0 stands (rw c.class_of.ensures at w.in-Alone.is))
    ] in
    placed_behind class_of c.args.from start n c.args.bytes.now rest _ c.after_blanks-start.ensures.tokens c.split_at.ensures.back c.split_at-2.ensures.front taken
