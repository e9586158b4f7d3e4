use Rattle.pack_dist.proofs.Cited.{◌∙◌, arith, take_all}
use Rattle.pack_dist.specs.Kept.{kept_of}
use Rattle.pack_dist.proofs.Packing.{length-kept}
use Rattle.pack_dist.proofs.Tiles.{whole_placed}
use Rattle.pack_dist.proofs.kept_tiles.write_kept_tiles.Goals as goal

pub write_in_parts-requires-clause-places : goal.write_in_parts-requires-clause-places
write_in_parts-requires-clause-places g c κs within =
    let k = c.args.kept.now in whole_placed k.flags.now k.tile k.some k.values.now c.tiles-tiles.result c.count-count.result k.as_long c.tiles-tiles.ensures c.count-count.ensures

pub returns-clause-values : goal.returns-clause-values
returns-clause-values g c =
    let k = c.args.kept.now in
    let kept = kept_of k.values.now k.flags.now in
    c.in_ok-packed.ensures.items ∙ take_all c.count-count.result kept (omega (arith, length-kept k.values.now k.flags.now k.as_long, c.count-count.ensures))
