use Rattle.fresh.proofs.Maps.{one_more}
use Rattle.fresh.proofs.run.Run.fill_each.Goals as goal

pub loop-x-preserved : goal.loop-x-preserved
loop-x-preserved g c =
    one_more (λ x y. g.F.Fn.post c.args.f (x, tt) y) c.args.xs.now c.loop-x.x-index c.x-item.result c.f.result c.args.self c.loop-x.self c.push.new.self c.loop-x-test.true c.x-item.is c.f.ensures
    c.loop-x.invariant c.push.ensures
