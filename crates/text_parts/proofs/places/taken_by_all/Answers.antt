use Rattle.std.proofs.Common.{◌∙◌, Ok, Err, ap, arith, map, sum, sym}
use Rattle.std.proofs.lemmas.Bool.{lt-ltb}
use Rattle.cvl_base.specs.declared.fault.FaultNo.TheVariants as no
use Rattle.cvl_base.specs.Faults.{fault}
use Rattle.cvl_base.specs.Gives.{fault_if}
use Rattle.text_parts.proofs.Taken.{taken-within}
use Rattle.text_parts.proofs.places.taken_by_all.Goals as goal

pub returns-then-taken-most : goal.returns-then-taken-most
returns-then-taken-most g c =
    let told = c.args.told.now in let all = sum (map g.S.Takes.taken told) in
    ap Err c.new.ensures
    ∙ sym (ap (λ b. fault_if b (fault no.TooLong) (Ok all))
    (lt-ltb c.args.most all (omega (
      arith,
      c.if-taken-most.true,
      c.taken-taken.ensures,
      c.loop-number.invariant.so_far,
      taken-within g.S.Takes.taken told c.loop-number.number-index c.loop-number-test.true,
    ))))
