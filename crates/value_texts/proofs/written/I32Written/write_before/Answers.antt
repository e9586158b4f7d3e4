use Rattle.std.proofs.Common.{◌≡◌, ℕ, ◌+◌, ◌-◌, ◌^◌, ◌<◌, ◌++◌, length, drop, ℤ, pos, int_lt, unsigned_abs, slice_set, ap, sym, ◌∙◌, arith, rules, to_z, of_z, w32}
use Rattle.std.specs.Int.{from_bool}
use Rattle.std.proofs.lemmas.Fmt.{length-decimal-le}
use Rattle.std.specs.Fmt.{decimal}
use Rattle.value_texts.proofs.DecimalTexts.{digits_at_end, with_sign, short}
use Rattle.value_texts.proofs.written.I32Written.write_before.Goals as goal

pub write_digits-requires : goal.write_digits-requires
write_digits-requires c =
    let number : 10 ^ 10 + c.from.result < 10 ^ 11 = omega (arith, c.from.ensures) in
    (omega (arith, length-decimal-le 11 (10 ^ 10 + c.from.result) (omega arith) number (omega (arith, number))), omega arith)

pub returns-clause-written : goal.returns-clause-written
returns-clause-written c =
    let page = c.write_digits.new.buf in
    let rest = drop c.args.end c.args.page.now in
    let magnitude = c.unsigned_abs-magnitude.result in
    let start = c.args.end - c.digit_count.result in
    let back : to_z w32 (of_z w32 c.args.self.now) ≡ c.args.self.now = search rules in
    let same = ap (λ (n : ℕ). 10 ^ 10 + n) c.from.ensures in
    let at = ap (λ (n : ℕ). c.write_digits.result + length (decimal n)) (sym same) ∙ c.write_digits.ensures.start in
    let digits = digits_at_end magnitude c.write_digits.result c.args.end page rest (omega arith) at (c.write_digits.ensures.written ∙ ap (λ (n : ℕ). decimal n ++ rest) same) in
    let counted = ap (λ (n : ℕ). drop (c.args.end - n) page) c.digit_count.ensures ∙ digits ∙ ap (λ (n : ℕ). decimal n ++ rest) (c.unsigned_abs-magnitude.ensures.value ∙ ap unsigned_abs back) in
    let sign = c.from-2.ensures ∙ ap (λ (z : ℤ). from_bool (int_lt z (pos 0))) back in
    let long = short magnitude (omega arith) in
    ap (λ (k : ℕ). drop (start - k) (slice_set page (start - 1) 45)) sign
    ∙ with_sign c.args.self.now start page rest (omega (arith, c.digit_count.ensures, long)) (omega arith) counted
