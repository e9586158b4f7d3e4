use Rattle.scan_walks.proofs.Cited.{◌≡◌, map, unsigned_abs, drop, take, get_or, sum, reduces_of, scans_of}
use Rattle.scan_walks.proofs.short_in_place.scans_in_by_one_sum.Given as goal

-- the scans of the elements before are written, and the sum is the reduce of the last segment that any of them lies in
abbrev pub invariant-loop-place : goal.invariant-loop-place
invariant-loop-place g l =
    let m = g.M.Monoid in
    let lengths = map unsigned_abs l.lengths in
    let before = take l.place l.fn.a in
    record {
      so_far : l.so_far ≡ get_or (reduces_of m.join m.unit lengths before) (sum (take l.place l.ends)) m.unit;
      scanned : take l.place l.a ≡ scans_of m.join m.unit lengths before;
      left : drop l.place l.a ≡ drop l.place l.fn.a;
    }
