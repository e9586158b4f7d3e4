use Rattle.elementwise.proofs.Cited.{Option, ℕ, ℤ, List, ◌∙◌, ◌<◌, arith, length, map, sym, zip, length-map, length-zip}
use Rattle.elementwise.specs.Valueless.{slot_without}
use Rattle.elementwise.proofs.FirstWithout.{in_slot, no_slot}
use Rattle.elementwise.proofs.races.ValuelessTargets.slot.Goals as goal

-- a place of the targets is one of the vector
inside : (value : ℤ → ℤ → Option ℤ) (xs ys : List ℤ) (place : ℕ) → place < length (map (λ p. slot_without (value p.0 p.1)) (zip xs ys)) → place < length xs
inside value xs ys place lt = omega (arith, lt, length-map (zip xs ys) (λ p. slot_without (value p.0 p.1)), length-zip xs ys)

pub returns-then-has_value-clause-value : goal.returns-then-has_value-clause-value
returns-then-has_value-clause-value g c =
    let t = c.args.self.now in
    let within = inside g.O.PartialBinary.value t.first.now t.second.now c.args.place c.requires in
    sym (no_slot g.O.PartialBinary.value t.first.now t.second.now c.args.place within (omega (arith, within, t.as_long)) (sym c.has_value.ensures ∙ c.if-has_value.true))

pub returns-else-has_value-clause-value : goal.returns-else-has_value-clause-value
returns-else-has_value-clause-value g c =
    let t = c.args.self.now in
    let within = inside g.O.PartialBinary.value t.first.now t.second.now c.args.place c.requires in
    sym (in_slot g.O.PartialBinary.value t.first.now t.second.now c.args.place within (omega (arith, within, t.as_long)) (sym c.has_value.ensures ∙ c.if-has_value.false))
