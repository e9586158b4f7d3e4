use Rattle.std.proofs.Common.{◌≡◌, ◌+◌, ◌≤◌, drop, map}
use Rattle.explained_values.specs.NameFaults.{different}
use Rattle.explained_values.proofs.name_faults.different.Given as goal

-- those that are counted and those that are left are all
abbrev pub invariant-loop-place : goal.invariant-loop-place
invariant-loop-place l =
    (l.count + different (map (λ word. word.now) (drop l.place l.words)) ≡ different (map (λ word. word.now) l.words)) × (l.count ≤ l.place)
