use Rattle.std.proofs.Common.{◌≡◌, ◌∙◌, false, ap, arith, get_or, pos, sym, Err}
use Rattle.long_sums.specs.LongSums.{may_grow}
use Rattle.long_sums.proofs.Passed.{all_pass, first_failing}
use Rattle.long_sums.proofs.rooms.check_growing.Goals as goal

pub returns-then-not-may_grow-clause-meaning : goal.returns-then-not-may_grow-clause-meaning
returns-then-not-may_grow-clause-meaning c =
    let outside : may_grow (get_or c.args.sums.now c.loop-k.k (pos 0)) ≡ false = cc in
    first_failing may_grow c.args.first c.args.sums.now c.loop-k.k (omega (arith, c.loop-k-test.true)) (λ j. c.loop-k.invariant j (pos 0)) outside ∙ ap Err (sym c.at.ensures)

pub returns-clause-meaning : goal.returns-clause-meaning
returns-clause-meaning c = all_pass may_grow c.args.first c.args.sums.now (λ k lt. c.loop-k.invariant k (pos 0) (omega (arith, lt, c.loop-k-test.false)))
