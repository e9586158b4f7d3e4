use Rattle.segdes.proofs.Cited.{arith, w64, Fits-below}
use Rattle.segdes.proofs.Sums.{cast_fits, in_row}
use Rattle.segdes.proofs.descriptor.SegDes.length.Goals as goal

pub overflow_cast-result : goal.overflow_cast-result
overflow_cast-result g c =
    cast_fits w64 _ _ _ c.lengths.ensures.value c.lengths.ensures.total
    (in_row _ _ _ c.lengths.ensures.value (omega (arith, c.requires))) (λ n le. Fits-below tt le)
