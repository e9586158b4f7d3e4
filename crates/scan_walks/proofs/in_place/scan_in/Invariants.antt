use Rattle.scan_walks.proofs.Cited.{◌≡◌, IsTrue, drop, take, fold_of, scan_of}
use Rattle.scan_walks.proofs.in_place.scan_in.Given as goal

abbrev pub invariant-loop-place : goal.invariant-loop-place
invariant-loop-place g l =
    let m = g.M.Monoid in
    record {
      item : IsTrue (m.is_item l.so_far);
      sum : l.so_far ≡ fold_of m.join l.fn.before (take l.place l.fn.a);
      scanned : take l.place l.a ≡ scan_of m.join l.fn.before (take l.place l.fn.a);
      left : drop l.place l.a ≡ drop l.place l.fn.a;
    }
