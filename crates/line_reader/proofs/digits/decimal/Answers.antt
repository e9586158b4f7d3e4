use Rattle.line_reader.proofs.Cited.{◌≡◌, get_or, refl, ap, ◌∙◌, arith, Fits, w8, take_all, number_more, Each1-get_or, number_from_digits}
use Rattle.line_reader.proofs.DigitLanes.{few_small}
use Rattle.line_reader.proofs.digits.decimal.Goals as goal

pub loop-digit-init : goal.loop-digit-init
loop-digit-init c = refl

pub overflow_mul-value : goal.overflow_mul-value
overflow_mul-value c =
    let small = few_small c.loop-digit.digit-index c.args.digits c.requires c.loop-digit-test.true (omega (arith, c.fits-digits.0, c.loop-digit.auto.digit-index-end)) in
    record { fits = omega (arith, small, c.loop-digit.invariant) }

pub overflow_add-value : goal.overflow_add-value
overflow_add-value c =
    let small = few_small c.loop-digit.digit-index c.args.digits c.requires c.loop-digit-test.true (omega (arith, c.fits-digits.0, c.loop-digit.auto.digit-index-end)) in
    let is : c.from.result ≡ get_or c.args.digits c.loop-digit.digit-index 0 = c.from.ensures ∙ ap (λ ds. get_or ds c.loop-digit.digit-index 0) c.as_array-digit-items.ensures in
    let byte = (Each1-get_or (Fits w8) c.args.digits c.loop-digit.digit-index 0 (omega (arith, c.fits-digits.0, c.loop-digit-test.true)) c.fits-digits.1).fits in
    record { fits = omega (arith, small, c.loop-digit.invariant, is, byte) }

pub loop-digit-preserved : goal.loop-digit-preserved
loop-digit-preserved c =
    let is : c.from.result ≡ get_or c.args.digits c.loop-digit.digit-index 0 = c.from.ensures ∙ ap (λ ds. get_or ds c.loop-digit.digit-index 0) c.as_array-digit-items.ensures in
    omega (arith, is, c.loop-digit.invariant, number_more 10 c.args.digits c.loop-digit.digit-index (omega (arith, c.fits-digits.0, c.loop-digit-test.true)))

pub returns : goal.returns
returns c =
    c.loop-digit.invariant ∙ ap (number_from_digits 10) (take_all c.loop-digit.digit-index c.args.digits (omega (arith, c.fits-digits.0, c.loop-digit-test.false)))
