use Rattle.std.proofs.Common.{◌≡◌, take}
use Rattle.std.specs.List.{list_all}
use Rattle.flag_calls.specs.Flags.{is_flag}
use Rattle.flag_calls.proofs.flags.are_flags.Given as goal

abbrev pub invariant-loop-byte : goal.invariant-loop-byte
invariant-loop-byte l = l.all ≡ list_all is_flag (take l.byte-index l.bytes)
