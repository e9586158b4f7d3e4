use Rattle.std.proofs.Common.{arith}
use Rattle.segdes.proofs.Checked.{lengths_made}
use Rattle.segdes.proofs.check.check_lengths.Goals as goal

pub returns-then-total-most-clause-meaning : goal.returns-then-total-most-clause-meaning
returns-then-total-most-clause-meaning c =
    let made = c.unsigned_total-total.ensures.few (omega (arith, c.if-total-most.true, c.requires.limit)) in
    lengths_made c.args.most c.args.numbers.now made.0.none_negative (omega (arith, made.1, c.if-total-most.true))

pub returns-then-total-most-clause-lengths : goal.returns-then-total-most-clause-lengths
returns-then-total-most-clause-lengths c =
    let made = c.unsigned_total-total.ensures.few (omega (arith, c.if-total-most.true, c.requires.limit)) in
    record { none_negative = made.0.none_negative; few = c.requires.few; in_limit = omega (arith, made.1, c.if-total-most.true) }

pub returns-clause-meaning : goal.returns-clause-meaning
returns-clause-meaning c = c.fault_of.ensures c.args.most (λ are. omega (arith, c.unsigned_total-total.ensures.lengths are))
