use Rattle.std.proofs.Common.{length, ap, arith}
use Rattle.std.proofs.lemmas.List.{length-take}
use Rattle.value_texts.proofs.segments.count_segments.Goals as goal

pub count_vector-requires : goal.count_vector-requires
count_vector-requires g c = omega (arith, ap length c.split_at.ensures.front, length-take c.unsigned_abs.result c.loop-length.rest.now, c.loop-length.invariant.left, c.requires.few)
