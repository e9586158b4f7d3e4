-- Each number of 64 bits is an item.
use Rattle.std.proofs.Common.{◌≡◌, true, ℤ, FitsSigned}
use Rattle.std.specs.Int.{w64}
use Rattle.long_sums.specs.LongLaws.{is_long-fits}
use Rattle.long_sums.specs.LongSums.{is_long}

pub each_is_long : (z : ℤ) → FitsSigned w64 z → is_long z ≡ true
each_is_long z fits = is_long-fits z fits
