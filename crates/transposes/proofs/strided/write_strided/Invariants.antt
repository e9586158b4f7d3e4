use Rattle.std.proofs.Common.{◌≡◌, ℕ, ◌+◌, ◌*◌, ◌<◌, ◌≤◌, ◌⊎◌, get_or}
use Rattle.transposes.proofs.strided.write_strided.Given as goal

abbrev pub invariant-loop-k : goal.invariant-loop-k
invariant-loop-k g l = record {
  written : (j : ℕ) (d : g.row.T.Denot) → j < l.k → get_or l.out (l.start + j) d ≡ get_or l.source (l.first + j * l.step) d;
  others : (i : ℕ) (d : g.row.T.Denot) → (i < l.start) ⊎ (l.start + l.k ≤ i) → get_or l.out i d ≡ get_or l.fn.out i d;
}
