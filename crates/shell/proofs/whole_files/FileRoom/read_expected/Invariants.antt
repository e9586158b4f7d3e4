use Rattle.std.proofs.Common.{◌≡◌, ◌+◌, ◌-◌, ◌^◌, max, min}
use Rattle.std.specs.Vec.{vec_len}
use Rattle.std.specs.Io.KnownBytes.{Consumes}
use Rattle.shell.proofs.whole_files.FileRoom.read_expected.Given as goal

-- the bytes so far are those that the file has lost, and the step is the one after them
abbrev pub invariant-loop-step : goal.invariant-loop-step
invariant-loop-step g l = record {
  bytes : Consumes (g.F.Read.remaining l.initial.file) (g.F.Read.remaining l.file) l.bytes.items;
  step : l.step ≡ min (min (l.expected + 1) (2 ^ 64 - 1) - vec_len l.bytes) (max (vec_len l.bytes) 1048576);
}

abbrev pub decreases-loop-step : goal.decreases-loop-step
decreases-loop-step g l = min (l.expected + 1) (2 ^ 64 - 1) - vec_len l.bytes
