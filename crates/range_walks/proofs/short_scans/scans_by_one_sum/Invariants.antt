use Rattle.range_walks.proofs.Cited.{◌≡◌, ◌-◌, ◌≤◌, length, map, unsigned_abs, take, get_or, sum, reduces_of, scans_of, with_items}
use Rattle.range_walks.proofs.short_scans.scans_by_one_sum.Given as goal

-- the scans of the elements before are written, and the sum is the reduce of the last segment that any of them lies in
abbrev pub invariant-loop-place : goal.invariant-loop-place
invariant-loop-place g l =
    let m = g.M.Monoid in
    let lengths = map unsigned_abs l.lengths in
    let before = take l.place (map g.E.Reading.item l.xs) in
    record {
      so_far : l.so_far ≡ get_or (reduces_of m.join m.unit lengths before) (sum (take l.place l.ends)) m.unit;
      room : length l.xs - l.place ≤ l.run.room;
      written : l.run ≡ with_items l.fn.run (scans_of m.join m.unit lengths before);
    }
