use Rattle.fresh.proofs.Cited.{arith}
use Rattle.fresh.proofs.InTurn.{written_after, written_all}
use Rattle.fresh.proofs.run.Run.fill_by_sixteens.Goals as goal

pub loop-left-preserved : goal.loop-left-preserved
loop-left-preserved g c =
    let now = c.loop-left in
    (omega (arith, now.invariant.0, c.loop-left-test.true), written_after _ now.done 16 c.args.self now.self c.push_sixteen.new.self now.invariant.1 c.push_sixteen.ensures)

pub returns : goal.returns
returns g c =
    written_all _ c.loop-left.done c.args.self c.loop-left.self c.fill_numbered.result (omega (arith, c.loop-left.invariant.0)) c.loop-left.invariant.1 c.fill_numbered.ensures
