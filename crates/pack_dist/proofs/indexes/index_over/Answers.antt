use Rattle.pack_dist.proofs.Cited.{sym}
use Rattle.pack_dist.proofs.Distributed.{progression-long}
use Rattle.pack_dist.proofs.indexes.index_over.Goals as goal

pub write_room-requires-clause-items : goal.write_room-requires-clause-items
write_room-requires-clause-items c = sym (progression-long _ _ c.in_ok-length.length)
