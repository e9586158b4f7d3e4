use Rattle.std.proofs.Common.{◌≡◌, take}
use Rattle.cvl_base.specs.Packs.{count_of}
use Rattle.cvl_base.proofs.flags.true_count.Given as goal

abbrev pub invariant-loop-flag : goal.invariant-loop-flag
invariant-loop-flag l = l.count ≡ count_of (take l.flag-index l.flags)
