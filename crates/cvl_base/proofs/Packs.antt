-- The number of true flags, flag by flag.
use Rattle.std.proofs.Common.{◌≡◌, ◌+◌, Bool, cond, List, ◌∷◌}
use Rattle.std.proofs.lemmas.List.Sums.{sum_by-cons}
use Rattle.cvl_base.specs.Packs.{count_of}

pub count-cons : (flag : Bool) (flags : List Bool) → count_of (flag ∷ flags) ≡ cond flag 1 0 + count_of flags
count-cons flag flags = sum_by-cons (λ (f : Bool). cond f 1 0) flag flags
