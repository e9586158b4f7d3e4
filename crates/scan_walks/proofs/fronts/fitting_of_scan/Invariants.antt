use Rattle.scan_walks.proofs.Cited.{◌≡◌, ◌+◌, ◌+ℤ◌, length, scan_of, fitting_front}
use Rattle.scan_walks.proofs.fronts.fitting_of_scan.Given as goal

abbrev pub invariant-loop-rest : goal.invariant-loop-rest
invariant-loop-rest l = record {
  front : fitting_front (scan_of ◌+ℤ◌ l.before l.xs) ≡ l.done + fitting_front (scan_of ◌+ℤ◌ l.so_far l.rest);
  parts : l.done + length l.rest ≡ length l.xs;
}

-- what is left to look at
abbrev pub decreases-loop-rest : goal.decreases-loop-rest
decreases-loop-rest l = length l.rest
