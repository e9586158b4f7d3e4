use Rattle.std.proofs.Common.{◌≡◌, drop, replicate, take}
use Rattle.fresh.specs.Places.{with_items}
use Rattle.permute_walks.specs.Senders.{nobody, written_over}
use Rattle.segment_sends.proofs.one_walk.push_and_clear.Given as goal

abbrev pub invariant-loop-k : goal.invariant-loop-k
invariant-loop-k g l = record {
  pushed : l.run ≡ with_items l.fn.run (written_over l.source (take l.k l.fn.senders) (take l.k l.values));
  cleared : take l.k l.senders ≡ replicate l.k nobody;
  left : drop l.k l.senders ≡ drop l.k l.fn.senders;
}
