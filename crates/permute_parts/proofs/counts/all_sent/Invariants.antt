use Rattle.std.proofs.Common.{◌≡◌, ◌+◌, sum, take}
use Rattle.permute_parts.proofs.counts.all_sent.Given as goal

abbrev pub invariant-loop-count : goal.invariant-loop-count
invariant-loop-count l = sum (take l.count-index l.counts) + l.left ≡ l.wanted
