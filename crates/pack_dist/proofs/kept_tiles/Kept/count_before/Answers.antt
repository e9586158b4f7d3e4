use Rattle.pack_dist.proofs.Cited.{pos}
use Rattle.pack_dist.proofs.Tiles.{count_at, read_count}
use Rattle.pack_dist.proofs.kept_tiles.Kept.count_before.Goals as goal

pub overflow_cast-result : goal.overflow_cast-result
overflow_cast-result g c =
    let k = c.args.self.now in read_count k.flags.now k.few k.tile c.args.t _ (count_at k.flags.now k.tile k.before.now k.known c.args.t (pos 0) c.requires)
