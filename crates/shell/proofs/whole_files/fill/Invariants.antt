use Rattle.std.proofs.Common.{◌≡◌, ◌≤◌, ◌-◌, ℕ, List, Option, length, take}
use Rattle.std.specs.Io.KnownBytes.{Consumes}
use Rattle.shell.proofs.whole_files.fill.Given as goal

-- a front of the room has the bytes that were read
abbrev pub invariant-loop-filled : goal.invariant-loop-filled
invariant-loop-filled g l = record {
  from : l.initial.from ≤ l.filled;
  within : l.filled ≤ length l.room;
  as_long : length l.room ≡ length l.initial.room;
  bytes : (before : Option (List ℕ)) → Consumes before (g.F.Read.remaining l.initial.file) (take l.initial.from l.initial.room)
      → Consumes before (g.F.Read.remaining l.file) (take l.filled l.room);
}

abbrev pub decreases-loop-filled : goal.decreases-loop-filled
decreases-loop-filled g l = length l.initial.room - l.filled
