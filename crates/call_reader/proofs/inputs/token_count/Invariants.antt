use Rattle.call_reader.proofs.Cited.{◌≡◌, ◌+◌, ◌≤◌, length, from_bool, goes_on}
use Rattle.call_reader.proofs.InputWalk.{count_of}
use Rattle.call_reader.proofs.inputs.token_count.Given as goal

abbrev pub invariant-loop-rest : goal.invariant-loop-rest
invariant-loop-rest l = (l.count + length l.rest ≤ length l.bytes) × (l.count + count_of l.rest ≡ count_of l.bytes + from_bool (goes_on l.after_white_space l.rest))

abbrev pub decreases-loop-rest : goal.decreases-loop-rest
decreases-loop-rest l = length l.rest
