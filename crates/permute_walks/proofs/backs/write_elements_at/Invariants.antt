use Rattle.permute_walks.proofs.Cited.{◌≡◌, ◌++◌, ◌-◌, take, stretch, elements_at}
use Rattle.permute_walks.proofs.backs.write_elements_at.Given as goal

abbrev pub invariant-loop-i : goal.invariant-loop-i
invariant-loop-i g l =
    l.run ≡ stretch l.fn.run.block l.fn.run.first (l.fn.run.items ++ elements_at l.source (take l.i-index l.index)) (l.fn.run.room - l.i-index)
