use Rattle.pack_dist.proofs.Tiles.{as_many}
use Rattle.pack_dist.proofs.kept_tiles.Kept.tiles.Goals as goal

pub returns : goal.returns
returns g c = let k = c.args.self.now in as_many k.flags.now k.tile k.before.now k.known
