use Rattle.std.proofs.Common.{◌≤◌, ◌-◌, length, take}
use Rattle.script_runs.specs.Hosts.{IsTold, with_more}
use Rattle.shell.proofs.stream_host.write_whole.Given as goal

-- a front of the bytes was written
abbrev pub invariant-loop-written : goal.invariant-loop-written
invariant-loop-written g l =
    (l.written ≤ length l.bytes)
    × IsTold (with_more (take l.written l.bytes) (g.W.Write.contents l.initial.writer)) (g.W.Write.contents l.writer)

abbrev pub decreases-loop-written : goal.decreases-loop-written
decreases-loop-written g l = length l.bytes - l.written
