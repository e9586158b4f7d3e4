use Rattle.line_reader.proofs.Cited.{◌≡◌, ◌^◌, ◌≤◌, refl, sym, ◌∙◌, ap, arith, Some, pos, neg_ℤ, ◌≤ℤ◌, ◌<ℤ◌, rules, to_z, of_z, w32, FitsSigned, option_map}
use Rattle.line_reader.proofs.NumberWalk.{digits_read, signed_read, signed_front, fits, unfit_outside, within_32}
use Rattle.line_reader.proofs.number.leading_number.Goals as goal

pub returns-in_err-value-clause-number : goal.returns-in_err-value-clause-number
returns-in_err-value-clause-number c =
    let outside : ¬ (FitsSigned w32 c.signed.result) = search rules in
    let read = signed_read c.args.bytes.now c.in_ok-first.first.now c.in_ok-first._others.now _ c.from-sign_length.result c.split_at.result.1.now
    (c.in_ok-first.ensures.cases.0, refl, c.from-sign_length.ensures, c.split_at.ensures.back) in
    let digits = c.leading_digits-count.ensures in
    let value = digits_read _ c.split_at.result.1.now c.leading_digits-count.result.0 c.leading_digits-count.result.1 (omega arith) digits.within digits.digits digits.value digits.whole in
    ap (option_map _) c.from_residual-in_err-value.ensures ∙ sym (read ∙ value ∙ unfit_outside _ c.leading_digits-count.result.1 c.signed.result c.signed.ensures outside)

pub returns-clause-number : goal.returns-clause-number
returns-clause-number c =
    let low : neg_ℤ (pos (2 ^ 31)) ≤ℤ c.in_ok-value.value = search rules in
    let high : c.in_ok-value.value <ℤ pos (2 ^ 31) = search rules in
    let back : to_z w32 (of_z w32 c.in_ok-value.value) ≡ c.in_ok-value.value = search rules in
    let same : c.in_ok-value.value ≡ c.signed.result = search rules in
    let read = signed_read c.args.bytes.now c.in_ok-first.first.now c.in_ok-first._others.now _ c.from-sign_length.result c.split_at.result.1.now
    (c.in_ok-first.ensures.cases.0, refl, c.from-sign_length.ensures, c.split_at.ensures.back) in
    let digits = c.leading_digits-count.ensures in
    let value = digits_read _ c.split_at.result.1.now c.leading_digits-count.result.0 c.leading_digits-count.result.1 (omega arith) digits.within digits.digits digits.value digits.whole in
    ap Some back ∙ sym (read ∙ value ∙ fits _ c.leading_digits-count.result.1 c.in_ok-value.value (same ∙ c.signed.ensures) low high)

pub returns-clause-front : goal.returns-clause-front
returns-clause-front c =
    let low : neg_ℤ (pos (2 ^ 31)) ≤ℤ c.in_ok-value.value = search rules in
    let high : c.in_ok-value.value <ℤ pos (2 ^ 31) = search rules in
    let same : c.in_ok-value.value ≡ c.signed.result = search rules in
    let small : c.leading_digits-count.result.1 ≤ 2 ^ 31 = within_32 _ c.leading_digits-count.result.1 c.in_ok-value.value (same ∙ c.signed.ensures) low high in
    signed_front c.args.bytes.now c.in_ok-first.first.now c.in_ok-first._others.now _ c.from-sign_length.result c.split_at.result.1.now c.leading_digits-count.result.0
    (c.in_ok-first.ensures.cases.0, refl, c.from-sign_length.ensures, c.split_at.ensures.back) (c.leading_digits-count.ensures.whole small)
