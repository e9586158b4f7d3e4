use Rattle.elementwise.proofs.Cited.{◌<◌, arith, length, map, zip, values_long}
use Rattle.elementwise.proofs.InPlace.{ends, step, value_pair}
use Rattle.elementwise.proofs.in_place.write_pairs.Goals as goal

pub loop-place-preserved : goal.loop-place-preserved
loop-place-preserved g c =
    let a = c.args.a.now in let b = c.args.b.now in let f = g.O.Binary.value in let place = c.loop-place.place in
    let within : place < length a = omega (arith, c.loop-place-test.true) in
    step (map (λ p. f p.0 p.1) (zip a b)) a c.loop-place.a place c.loop-place.invariant c.apply.result (omega (arith, within))
    (value_pair f a b c.loop-place.a place c.loop-place.invariant c.index-a-place.result c.index-b-place.result c.apply.result
    within (omega (arith, within, c.requires)) c.index-a-place.is c.index-b-place.is c.apply.ensures)

pub returns : goal.returns
returns g c =
    let a = c.args.a.now in let b = c.args.b.now in let whole = map (λ p. g.O.Binary.value p.0 p.1) (zip a b) in
    let long = values_long (λ p. g.O.Binary.value p.0 p.1) a b c.requires.as_long in
    ends whole a c.loop-place.a c.loop-place.place c.loop-place.invariant (omega (arith, long)) (omega (arith, long, c.loop-place-test.false))
