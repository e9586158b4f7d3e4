use Rattle.elementwise.proofs.Cited.{◌≡◌, ◌∙◌, ◌≤◌, Bool, ◌&&◌, true, false, None, arith, below_more, get_or, refl, sym, true≢false}
use Rattle.elementwise.specs.Valueless.{slots_without}
use Rattle.elementwise.proofs.FirstWithout.{no_slot}
use Rattle.elementwise.proofs.valueless.all_have_values.Goals as goal

both_true : (a b : Bool) → (a && b) ≡ true → (a ≡ true) × (b ≡ true)
both_true true true is = (refl, refl)
both_true true false is = absurd (true≢false (sym is))
both_true false b is = absurd (true≢false (sym is))

pub loop-place-preserved : goal.loop-place-preserved
loop-place-preserved g c clear k begun before =
    let value = g.O.PartialBinary.value in let xs = c.args.first.now in let ys = c.args.second.now in let place = c.loop-place.place in
    let both = both_true c.loop-place.clear c.has_value-clear.result clear in
    below_more (λ k. c.args.from ≤ k → get_or (slots_without value xs ys) k None ≡ None) place (λ k before begun. c.loop-place.invariant both.0 k begun before)
    (λ _. no_slot value xs ys place (omega (arith, c.requires.in_first, c.loop-place-test.true)) (omega (arith, c.requires.in_second, c.loop-place-test.true)) (sym c.has_value-clear.ensures ∙ both.1))
    k before begun
