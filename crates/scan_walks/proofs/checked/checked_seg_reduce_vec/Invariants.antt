use Rattle.scan_walks.proofs.Cited.{◌≡◌, drop, length, checked_reduce_of, checked_seg_reduce_of, cut_of, at_segment, start_of, vec_len, vec_capacity}
use Rattle.scan_walks.proofs.Walk.{Walked, single}
use Rattle.scan_walks.proofs.checked.checked_seg_reduce_vec.Given as goal

-- the sums so far, and those of the segments left
abbrev pub invariant-loop-s : goal.invariant-loop-s
invariant-loop-s g l = record {
  walked : Walked single at_segment checked_reduce_of (cut_of l.d l.a) l.s l.sums.items (checked_seg_reduce_of l.a l.d);
  rest : l.rest ≡ drop (start_of l.d l.s) l.a;
  as_long : vec_len l.sums ≡ l.s;
  capacity : vec_capacity l.sums ≡ length l.d;
}
