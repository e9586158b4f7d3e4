use Rattle.line_reader.proofs.Cited.{◌≡◌, ℕ, ◌+◌, ◌*◌, get_or, true, sym, ap, ◌∙◌, arith, is_ascii_digit, prefix_len-drop_yes}
use Rattle.line_reader.proofs.NumberWalk.{digits_more, value_more}
use Rattle.line_reader.proofs.number.walked_digits.Goals as goal

pub loop-i-preserved : goal.loop-i-preserved
loop-i-preserved c =
    let bytes = c.args.bytes.now in
    let i = c.loop-i.i in
    let e : is_ascii_digit (get_or bytes i 0) ≡ true = sym c.is_ascii_digit.ensures.value ∙ c.if-not-is_ascii_digit.false in
    record {
      small = grind arith;
      digits = digits_more bytes i (omega arith) c.loop-i.invariant.digits e;
      value = ap (λ (d : ℕ). c.loop-i.value * 10 + d) c.from.ensures ∙ value_more bytes i c.loop-i.value (omega arith) c.loop-i.invariant.value e;
      whole = omega (arith, c.loop-i.invariant.whole, prefix_len-drop_yes is_ascii_digit bytes i 0 (omega arith) e);
    }
