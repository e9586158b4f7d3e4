use Rattle.pack_dist.proofs.Cited.{zip}
use Rattle.pack_dist.proofs.Distributed.{lists-long, numbers}
use Rattle.pack_dist.proofs.indexes.SegmentProgressionsSegments.descriptor.Goals as goal

pub returns : goal.returns
returns g c = let self = c.args.self.now in lists-long (numbers 0) (zip self.inits.now self.strides.now) self.d.now self.one_each
