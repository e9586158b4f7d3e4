use Rattle.std.proofs.Common.{◌+◌, arith}
use Rattle.segment_fills.proofs.WrittenFronts.{fewer_items}
use Rattle.segment_fills.proofs.fronts.EightAtOnceFronts.write.Goals as goal

pub returns-then-out-first-ge-AT_ONCE-clause-front : goal.returns-then-out-first-ge-AT_ONCE-clause-front
returns-then-out-first-ge-AT_ONCE-clause-front g c =
    fewer_items (g.S.Items.at c.args.items.now) c.args.out.now c.args.first c.write.new.out c.args.end (c.args.first + 8)
    (omega (arith, c.requires.in_order, c.requires.within)) c.requires.in_order (omega (arith, c.if-end-first-le-AT_ONCE.true)) c.write.ensures.front
