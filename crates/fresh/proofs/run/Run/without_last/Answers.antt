use Rattle.fresh.proofs.Cited.{◌<◌, length, arith}
use Rattle.fresh.proofs.Copied.{one_fewer}
use Rattle.fresh.proofs.run.Run.without_last.Goals as goal

pub loop-preserved : goal.loop-preserved
loop-preserved g c =
    let within : c.loop.counter < length c.args.self.items = omega (arith, c.requires, c.loop-test.true) in
    one_fewer c.args.self c.loop.self c.pop.new.self c.pop.result c.loop.counter within c.loop.invariant c.pop.ensures.last c.pop.ensures.others
