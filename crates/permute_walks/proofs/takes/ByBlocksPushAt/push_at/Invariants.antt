use Rattle.permute_walks.proofs.Cited.{length}
use Rattle.permute_walks.proofs.Blocks.{IsLeft}
use Rattle.permute_walks.proofs.takes.ByBlocksPushAt.push_at.Given as goal

abbrev pub invariant-loop-rest : goal.invariant-loop-rest
invariant-loop-rest g l = IsLeft l.source l.other l.index l.fn.run l.rest l.run l.found

abbrev pub decreases-loop-rest : goal.decreases-loop-rest
decreases-loop-rest g l = length l.rest
