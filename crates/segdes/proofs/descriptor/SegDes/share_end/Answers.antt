use Rattle.segdes.proofs.Cited.{arith, sum_by-take-le}
use Rattle.segdes.proofs.descriptor.SegDes.share_end.Goals as goal

pub overflow_add-place : goal.overflow_add-place
overflow_add-place g c =
    let d = c.args.self.now in
    omega (arith, sum_by-take-le (λ n. n) d c.args.begin, sum_by-take-le (λ n. n) d c.args.end)
