use Rattle.pack_dist.proofs.Distributed.{copies, lists-long}
use Rattle.pack_dist.proofs.distributes.SegmentCopiesSegments.descriptor.Goals as goal

pub returns : goal.returns
returns g c = lists-long (copies 0) c.args.self.now.values.now c.args.self.now.d.now c.args.self.now.one_each
