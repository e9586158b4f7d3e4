use Rattle.scan_walks.proofs.Cited.{◌≡◌, ◌-◌, ◌++◌, length, map, unsigned_abs, drop, take, sum, reduces_of, scans_of}
use Rattle.std.specs.Prelude.{replicate}
use Rattle.scan_walks.proofs.short_in_place.scans_in_by_ends.Given as goal

-- the elements before are joined, and their scans are written
abbrev pub invariant-loop-place : goal.invariant-loop-place
invariant-loop-place g l =
    let m = g.M.Monoid in
    let lengths = map unsigned_abs l.lengths in
    let before = take l.place l.fn.a in
    record {
      segment : l.segment ≡ sum (take l.place l.ends);
      places : length l.sums ≡ 128;
      sums : l.sums ≡ reduces_of m.join m.unit lengths before ++ replicate (128 - length l.lengths) m.unit;
      scanned : take l.place l.a ≡ scans_of m.join m.unit lengths before;
      left : drop l.place l.a ≡ drop l.place l.fn.a;
    }
