use Rattle.fresh.proofs.Cited.{◌≡◌, ◌+◌, ◌-◌, ◌^◌, ◌<◌, drop, min, sum}
use Rattle.fresh.proofs.parts.total.Given as goal

abbrev pub invariant-loop-count : goal.invariant-loop-count
invariant-loop-count l = record {
  whole : min (l.total + sum (drop l.count-index l.counts)) (2 ^ 64 - 1) ≡ min (sum l.counts) (2 ^ 64 - 1);
  fits : l.total < 2 ^ 64;
}
