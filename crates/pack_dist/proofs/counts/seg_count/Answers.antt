use Rattle.pack_dist.proofs.Cited.{arith}
use Rattle.pack_dist.proofs.Segments.{reduced}
use Rattle.pack_dist.proofs.counts.seg_count.Goals as goal

pub returns : goal.returns
returns g c =
    let sums = c.seg_reduce_readings in
    let counted = reduced (λ v. v.items) c.args.flags.now c.args.d.now (omega arith) (omega arith) sums.result sums.ensures.values in
    record { values = counted.0; lengths = counted.1; one_each = sums.ensures.one_each }
