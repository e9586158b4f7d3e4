-- The walk from flag to flag.
use Rattle.std.proofs.Common.{◌≡◌, ℕ, ◌+◌, Bool, not, List, ◌++◌, length, take, drop, map}
use Rattle.cvl_base.specs.Packs.{count_of}
use Rattle.flag_merges.specs.Merges.{merged}

-- what is written before flag k, and what is left of both vectors
pub record IsMerged {X : Type 0} (flags : List Bool) (xs ys : List X) (k first second : ℕ) (out : List X) : Type 0 where
  pub as_long : length out ≡ length flags
  pub true_left : first + count_of (drop k flags) ≡ length xs
  pub false_left : second + count_of (map not (drop k flags)) ≡ length ys
  pub so_far : take k out ++ merged (drop k flags) (drop first xs) (drop second ys) ≡ merged flags xs ys
