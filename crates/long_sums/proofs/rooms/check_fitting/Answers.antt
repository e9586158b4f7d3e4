use Rattle.std.proofs.Common.{◌≡◌, ◌∙◌, false, ap, arith, get_or, pos, sym, Err}
use Rattle.cvl_base.specs.ItemWords.{is_number}
use Rattle.long_sums.proofs.Passed.{all_pass, first_failing}
use Rattle.long_sums.proofs.rooms.check_fitting.Goals as goal

pub returns-then-not-fits-clause-meaning : goal.returns-then-not-fits-clause-meaning
returns-then-not-fits-clause-meaning c =
    let outside : is_number (get_or c.args.sums.now c.loop-k.k (pos 0)) ≡ false = cc in
    first_failing is_number c.args.first c.args.sums.now c.loop-k.k (omega (arith, c.loop-k-test.true)) (λ j. c.loop-k.invariant j (pos 0)) outside ∙ ap Err (sym c.at.ensures)

pub returns-clause-meaning : goal.returns-clause-meaning
returns-clause-meaning c = all_pass is_number c.args.first c.args.sums.now (λ k lt. c.loop-k.invariant k (pos 0) (omega (arith, lt, c.loop-k-test.false)))
