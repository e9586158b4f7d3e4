use Rattle.std.proofs.Common.{length, take, ◌-◌, ◌≤◌}
use Rattle.script_runs.specs.Hosts.{Shows, with_output}
use Rattle.script_runs.proofs.puts.put_all.Given as goal

-- a front of the bytes was taken, without failing
abbrev pub invariant-loop-put : goal.invariant-loop-put
invariant-loop-put g l =
    (l.put ≤ length l.bytes)
    × Shows (with_output (take l.put l.bytes) (g.S.Sink.seen l.initial.sink)) (g.S.Sink.seen l.sink)

abbrev pub decreases-loop-put : goal.decreases-loop-put
decreases-loop-put g l = length l.bytes - l.put
