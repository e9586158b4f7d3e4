use Rattle.std.proofs.Common.{◌≡◌, ◌∙◌, false, ap, arith, get_or, pos, sym, Err}
use Rattle.cvl_base.specs.declared.fault.FaultNo.TheVariants.{Overflow}
use Rattle.cvl_base.specs.Faults.{fault_at}
use Rattle.byte_numbers.specs.Bytes.{is_byte}
use Rattle.byte_numbers.proofs.AsBytes.{all_bytes, first_outside}
use Rattle.byte_numbers.proofs.narrowed.check_bytes.Goals as goal

pub returns-then-not-is_byte-clause-meaning : goal.returns-then-not-is_byte-clause-meaning
returns-then-not-is_byte-clause-meaning c =
    let outside : is_byte (get_or c.args.a.now c.loop-k.k (pos 0)) ≡ false = cc in
    first_outside 0 c.args.a.now c.loop-k.k (omega (arith, c.loop-k-test.true)) c.loop-k.invariant outside
    ∙ ap (λ place. Err (fault_at Overflow place)) (omega arith) ∙ ap Err (sym c.at.ensures)

pub returns-clause-meaning : goal.returns-clause-meaning
returns-clause-meaning c = all_bytes 0 c.args.a.now (λ k lt. c.loop-k.invariant k (omega (arith, lt, c.loop-k-test.false)))
