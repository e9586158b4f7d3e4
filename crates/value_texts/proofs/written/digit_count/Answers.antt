use Rattle.std.proofs.Common.{arith}
use Rattle.value_texts.proofs.DecimalTexts.{digits_counted}
use Rattle.value_texts.proofs.written.digit_count.Goals as goal

pub returns : goal.returns
returns c = omega (arith, digits_counted 9 c.args.number (omega arith) (omega arith))
