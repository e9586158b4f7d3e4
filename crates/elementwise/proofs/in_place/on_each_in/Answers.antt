use Rattle.elementwise.proofs.Cited.{arith, map, length-map}
use Rattle.elementwise.proofs.InPlace.{ends}
use Rattle.elementwise.proofs.in_place.on_each_in.Goals as goal

pub returns : goal.returns
returns g c =
    let a = c.args.a.now in let f = g.O.Single.value in
    ends (map f a) a c.loop-place.a c.loop-place.place c.loop-place.invariant (omega (arith, length-map a f)) (omega (arith, length-map a f, c.loop-place-test.false))
