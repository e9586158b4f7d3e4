use Rattle.std.proofs.Common.{◌≡◌, take}
use Rattle.fresh.specs.Places.{with_items}
use Rattle.permute_walks.specs.Senders.{written_over}
use Rattle.segment_sends.proofs.one_walk.push_elements.Given as goal

abbrev pub invariant-loop-k : goal.invariant-loop-k
invariant-loop-k g l = l.run ≡ with_items l.fn.run (written_over l.source (take l.k l.senders) (take l.k l.values))
