use Rattle.segdes.proofs.Cited.{arith, ap, w32, unsigned_abs, Fits-below}
use Rattle.segdes.proofs.Sums.{cast_fits, length_at, starts_more, starts_all}
use Rattle.segdes.proofs.starts.starts_and_total.Goals as goal

pub overflow_cast-end : goal.overflow_cast-end
overflow_cast-end g c =
    cast_fits w32 _ _ _ c.requires.none_negative c.requires.in_limit c.loop-length-test.true (λ n le. Fits-below tt le)

pub loop-length-preserved : goal.loop-length-preserved
loop-length-preserved g c = (
  omega arith,
  omega arith,
  starts_more _ _ _ _ _ _ _ c.requires.none_negative c.requires.in_limit c.loop-length-test.true
      (omega arith) c.push_reserved.ensures.items
      (ap unsigned_abs (length_at _ _ _ c.requires.none_negative c.requires.in_limit c.loop-length-test.true))
      c.loop-length.invariant.2,
)

pub returns : goal.returns
returns g c = starts_all _ _ _ _ _ c.requires.none_negative c.requires.in_limit (omega arith) (omega arith) (omega arith) c.loop-length.invariant.2
