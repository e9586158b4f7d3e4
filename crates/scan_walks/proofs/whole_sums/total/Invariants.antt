use Rattle.scan_walks.proofs.Cited.{◌≡◌, ◌≤◌, take, unsigned_abs, total_of, ◌*◌}
use Rattle.scan_walks.proofs.whole_sums.total.Given as goal

-- each integer adds at most 2^31
abbrev pub invariant-loop-x : goal.invariant-loop-x
invariant-loop-x l = record {
  sum : l.sum ≡ total_of (take l.x-index l.xs);
  small : unsigned_abs l.sum ≤ l.x-index * 2147483648;
}
