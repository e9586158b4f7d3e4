use Rattle.pack_dist.proofs.Cited.{◌≡◌, length, take, vec_len, vec_capacity, sum}
use Rattle.pack_dist.proofs.Extracted.{Extracting}
use Rattle.pack_dist.proofs.extracts.seg_extract.Given as goal

-- the elements so far, and those of the segments left
abbrev pub invariant-loop-s : goal.invariant-loop-s
invariant-loop-s g l = record {
  walked : Extracting l.vector l.index l.d l.s l.elements.items;
  as_long : vec_len l.elements ≡ l.s;
  capacity : vec_capacity l.elements ≡ length l.d;
  starts : l.start ≡ sum (take l.s l.d);
}
