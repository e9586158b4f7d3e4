use Rattle.elementwise.proofs.Cited.{◌∙◌, ◌≤◌, arith, length, sym}
use Rattle.elementwise.proofs.FirstWithout.{none_left, passed_up_to}
use Rattle.elementwise.proofs.valueless.first_without.Goals as goal

pub loop-start-preserved : goal.loop-start-preserved
loop-start-preserved g c =
    let a = c.args.a.now in
    let within : c.min-end.result ≤ length a = omega (arith, c.min-end.ensures) in
    record {
      within = within;
      least = c.loop-start.invariant.least ∙ passed_up_to g.O.PartialBinary.value a c.args.b.now c.loop-start.start c.min-end.result
          (omega (arith, c.min-end.ensures, c.loop-start-test.true)) within (omega (arith, within, c.requires.as_long)) (c.all_have_values.ensures c.if-not-all_have_values.false);
    }

pub returns : goal.returns
returns g c = sym (c.loop-start.invariant.least ∙ none_left g.O.PartialBinary.value c.args.a.now c.args.b.now c.loop-start.start c.loop-start-test.false)
