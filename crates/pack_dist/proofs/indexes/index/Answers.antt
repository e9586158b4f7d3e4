use Rattle.pack_dist.proofs.Cited.{sym}
use Rattle.pack_dist.proofs.Distributed.{progression-long}
use Rattle.pack_dist.proofs.indexes.index.Goals as goal

pub write_vector-requires-after_bounds : goal.write_vector-requires-after_bounds
write_vector-requires-after_bounds g c κs within = sym (progression-long _ _ c.in_ok-length.length)
