use Rattle.std.proofs.Common.{◌≡◌, take}
use Rattle.std.specs.Prelude.{count_by}
use Rattle.flag_calls.specs.Flags.{flag_of}
use Rattle.flag_calls.proofs.counts.true_one_by_one.Given as goal

abbrev pub invariant-loop-byte : goal.invariant-loop-byte
invariant-loop-byte l = l.count ≡ count_by flag_of (take l.byte-index l.bytes)
