use Rattle.call_reader.proofs.Cited.{◌≡◌, ◌+◌, ◌≤◌, drop, from_bool, goes_on}
use Rattle.call_reader.proofs.InputWalk.{count_of}
use Rattle.call_reader.proofs.inputs.tokens_begun.Given as goal

abbrev pub invariant-loop-byte : goal.invariant-loop-byte
invariant-loop-byte l =
    (l.count ≤ l.byte-index)
    × (l.count + count_of (drop l.byte-index l.bytes) + from_bool (goes_on l.after_white_space l.bytes)
    ≡ count_of l.bytes + from_bool (goes_on l.is_after (drop l.byte-index l.bytes)))
