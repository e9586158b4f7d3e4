use Rattle.permute_walks.proofs.Cited.{arith}
use Rattle.permute_walks.proofs.Written.{range_none}
use Rattle.permute_walks.proofs.ranges.write_range.Goals as goal

pub loop-first-init : goal.loop-first-init
loop-first-init g c =
    range_none c.args.source.now (g.D.Destinations.destinations c.args.destinations.now) c.args.lowest (omega (arith, c.requires.sourced, c.requires.in_limit))
    c.args.out.now c.args.marks.now c.requires.unmarked
