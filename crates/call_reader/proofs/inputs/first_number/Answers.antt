use Rattle.call_reader.proofs.Cited.{◌≡◌, drop, false, sym, ap, ◌∙◌, begins_in_token, written_number, input_class}
use Rattle.call_reader.proofs.InputWalk.{number_first}
use Rattle.call_reader.proofs.inputs.first_number.Goals as goal

pub returns-then-not-begins_in_token-clause-tokens : goal.returns-then-not-begins_in_token-clause-tokens
returns-then-not-begins_in_token-clause-tokens c =
    let rest = c.split_at.result.1.now in
    let k = c.in-Some.length in
    let back = c.split_at-in-Some.ensures.back in
    let ends : begins_in_token input_class (drop k rest) ≡ false = cc (back, c.begins_in_token.ensures, c.if-not-begins_in_token.true) in
    let first = number_first rest k _ (ap written_number c.in-Some.ensures.front ∙ sym c.in-Some.ensures.number) ends in
    cc
