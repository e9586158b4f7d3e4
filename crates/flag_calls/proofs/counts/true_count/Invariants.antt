use Rattle.std.proofs.Common.{◌≡◌, ◌+◌, length}
use Rattle.std.specs.Prelude.{count_by}
use Rattle.flag_calls.specs.Flags.{flag_of}
use Rattle.flag_calls.proofs.counts.true_count.Given as goal

abbrev pub invariant-loop-rest : goal.invariant-loop-rest
invariant-loop-rest l = l.count + count_by flag_of l.rest ≡ count_by flag_of l.bytes

-- what is left to be counted
abbrev pub decreases-loop-rest : goal.decreases-loop-rest
decreases-loop-rest l = length l.rest
