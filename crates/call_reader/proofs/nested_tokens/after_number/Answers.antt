use Rattle.call_reader.proofs.Cited.{◌≡◌, to_z, of_z, w32, arith, drop, false, sym, ap, ◌∙◌, to_z-of_z, begins_in_token, written_number, nested_class, number}
use Rattle.call_reader.proofs.NestedTokens.{number_first}
use Rattle.call_reader.proofs.nested_tokens.after_number.Goals as goal

pub returns-then-not-begins_in_token-clause-marks : goal.returns-then-not-begins_in_token-clause-marks
returns-then-not-begins_in_token-clause-marks c =
    let rest = c.split_at.result.1.now in
    let k = c.in-Some.length in
    let back = c.split_at-in-Some.ensures.back in
    let ends : begins_in_token nested_class (drop k rest) ≡ false =
    ap (begins_in_token nested_class) (sym back) ∙ sym c.begins_in_token.ensures ∙ c.if-not-begins_in_token.true in
    let first = number_first rest k _ (ap written_number c.in-Some.ensures.front ∙ sym c.in-Some.ensures.number) ends in
    let same : to_z w32 (of_z w32 c.in-Some.value) ≡ c.in-Some.value = grind (arith, to_z-of_z) in
    cc (c.blanks.ensures.tokens, c.split_at.ensures.back, first, back, same)
