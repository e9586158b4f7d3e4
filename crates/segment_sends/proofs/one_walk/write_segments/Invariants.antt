use Rattle.std.proofs.Common.{◌≡◌, length, replicate}
use Rattle.permute_walks.specs.Senders.{nobody}
use Rattle.segment_sends.specs.Shares.{sending}
use Rattle.segment_sends.proofs.Shared.{IsWalked}
use Rattle.segment_sends.proofs.one_walk.write_segments.Given as goal

abbrev pub invariant-loop-s : goal.invariant-loop-s
invariant-loop-s g l = record {
  walked : IsWalked (sending l.source (g.D.SegmentDestinations.segments l.segments) l.before (length l.fn.senders)) l.begin l.end l.s l.fn.run l.first l.run;
  fresh : l.senders ≡ replicate (length l.senders) nobody;
}
