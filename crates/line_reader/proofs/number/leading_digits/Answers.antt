use Rattle.line_reader.proofs.Cited.{◌∙◌, arith}
use Rattle.line_reader.proofs.DigitLanes.{lanes_read}
use Rattle.line_reader.proofs.number.leading_digits.Goals as goal

pub decimal-requires : goal.decimal-requires
decimal-requires c =
    (lanes_read c.args.bytes.now c.digit_run-count.result c.moved.result c.if-bytes-ge-LANES.true c.type_inv.bytes c.digit_run-count.ensures c.if-count-lt-LANES.true c.moved.ensures).below

pub returns-then-count-lt-LANES : goal.returns-then-count-lt-LANES
returns-then-count-lt-LANES c =
    let read = lanes_read c.args.bytes.now c.digit_run-count.result c.moved.result c.if-bytes-ge-LANES.true c.type_inv.bytes c.digit_run-count.ensures c.if-count-lt-LANES.true c.moved.ensures in
    record {
      within = omega arith;
      digits = read.digits;
      value = c.decimal.ensures ∙ read.value;
      whole = λ _. read.whole;
      small = omega (arith, c.decimal.ensures, read.value, read.small);
    }
