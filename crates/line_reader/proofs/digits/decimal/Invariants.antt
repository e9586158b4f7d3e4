use Rattle.line_reader.proofs.Cited.{◌≡◌, take, number_from_digits}
use Rattle.line_reader.proofs.digits.decimal.Given as goal

abbrev pub invariant-loop-digit : goal.invariant-loop-digit
invariant-loop-digit l = l.value ≡ number_from_digits 10 (take l.digit-index l.fn.digits)
