use Rattle.std.proofs.Common.{refl}
use Rattle.std.specs.Int.{int_wrap}
use Rattle.operators.proofs.tile_sums.tile_sum_values.Goals as goal

pub returns : goal.returns
unfolding int_wrap
returns c = record {
  fronts_of_three = refl;
  before_each = refl;
  of_second = refl;
  of_third = refl;
  upto_first = refl;
  upto_third = refl;
  before_first = refl;
  before_third = refl;
  between_first_and_third = refl;
  listed = refl;
  listed_before_third = refl;
}
