use Rattle.std.proofs.Common.{◌≡◌, true, pos, get_or, arith}
use Rattle.std.specs.Int.{is_negative}
use Rattle.segdes.proofs.Checked.{negative_at, too_long}
use Rattle.segdes.proofs.check.fault_of.Goals as goal

pub returns-then-is_below_zero : goal.returns-then-is_below_zero
returns-then-is_below_zero c = λ most _.
    let below : is_negative (get_or c.args.numbers.now c.loop-place.place (pos 0)) ≡ true = cc in
    let e = negative_at most _ _ c.loop-place.invariant c.loop-place-test.true below in
    cc

pub returns : goal.returns
returns c = λ most long. let e = too_long most _ _ c.loop-place.invariant (omega arith) long in cc
