use Rattle.permute_walks.proofs.Cited.{◌+◌, drop, length}
use Rattle.permute_walks.proofs.Listed.{IsRest}
use Rattle.permute_walks.proofs.Written.{Leaves, is_own}
use Rattle.permute_walks.proofs.ranges.write_listed.Given as goal

abbrev pub invariant-loop-place : goal.invariant-loop-place
invariant-loop-place g l =
    let ds = g.D.Destinations.destinations l.destinations in
    let n = length l.fn.out in
    IsRest (is_own l.source ds l.lowest n l.first l.fn.out l.fn.marks) (λ k. Leaves l.source ds l.lowest n l.first l.fn.out l.fn.marks k l.out l.marks)
    (drop l.place-index l.own) (l.first + length l.fn.list)
