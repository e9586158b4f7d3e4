use Rattle.elementwise.proofs.Cited.{◌∙◌, arith, sym}
use Rattle.elementwise.proofs.FirstWithout.{found, none_left, passed}
use Rattle.elementwise.proofs.valueless.first_from.Goals as goal

pub loop-place-preserved : goal.loop-place-preserved
loop-place-preserved g c =
    c.loop-place.invariant ∙ passed g.O.PartialBinary.value c.args.a.now c.args.b.now c.loop-place.place c.loop-place-test.true
    (omega (arith, c.loop-place-test.true, c.requires.as_long)) (sym c.has_value.ensures ∙ c.if-not-has_value.false)

pub returns-then-not-has_value : goal.returns-then-not-has_value
returns-then-not-has_value g c =
    sym (c.loop-place.invariant ∙ found g.O.PartialBinary.value c.args.a.now c.args.b.now c.loop-place.place c.loop-place-test.true
    (omega (arith, c.loop-place-test.true, c.requires.as_long)) (sym c.has_value.ensures ∙ c.if-not-has_value.true))

pub returns : goal.returns
returns g c = sym (c.loop-place.invariant ∙ none_left g.O.PartialBinary.value c.args.a.now c.args.b.now c.loop-place.place c.loop-place-test.false)
