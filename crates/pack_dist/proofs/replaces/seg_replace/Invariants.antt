use Rattle.pack_dist.proofs.Cited.{◌≡◌, length, take, vec_len, sum}
use Rattle.pack_dist.proofs.Replaced.{Replacing}
use Rattle.pack_dist.proofs.replaces.seg_replace.Given as goal

-- the segments so far are done, and the others as they were
abbrev pub invariant-loop-s : goal.invariant-loop-s
invariant-loop-s g l = record {
  replacing : Replacing l.vector l.index l.values l.d l.s l.start l.replaced.items;
  as_long : vec_len l.replaced ≡ length l.vector;
  starts : l.start ≡ sum (take l.s l.d);
}
