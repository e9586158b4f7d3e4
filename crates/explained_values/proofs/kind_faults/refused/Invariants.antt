use Rattle.std.proofs.Common.{◌≡◌, length, drop}
use Rattle.std.specs.Prelude.{find}
use Rattle.std.specs.List.{enumerate_from}
use Rattle.explained_values.specs.KindFaults.{is_refused}
use Rattle.explained_values.proofs.kind_faults.refused.Given as goal

abbrev pub invariant-loop-place : goal.invariant-loop-place
invariant-loop-place g l =
    find (is_refused l.op (length l.arguments)) (enumerate_from 0 l.arguments)
    ≡ find (is_refused l.op (length l.arguments)) (enumerate_from l.place (drop l.place l.arguments))
