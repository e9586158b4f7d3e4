use Rattle.pack_dist.proofs.Cited.{arith}
use Rattle.pack_dist.proofs.Packing.{pushed_if}
use Rattle.pack_dist.proofs.kept_blocks.push_each.Goals as goal

pub loop-k-preserved : goal.loop-k-preserved
loop-k-preserved g c =
    let now = c.loop-k in
    pushed_if c.args.run now.run c.push_if.new.self c.args.values.now c.args.flags.now now.k c.index-values-k.result c.requires.as_long (omega (arith, c.loop-k-test.true))
    c.index-values-k.is now.invariant c.push_if.ensures
