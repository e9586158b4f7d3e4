use Rattle.range_walks.proofs.Cited.{◌≡◌, ◌-◌, ◌++◌, ◌≤◌, length, map, unsigned_abs, take, sum, reduces_of, scans_of, with_items}
use Rattle.std.specs.Prelude.{replicate}
use Rattle.range_walks.proofs.short_scans.scans_by_ends.Given as goal

-- the elements before are joined, and their scans are written
abbrev pub invariant-loop-place : goal.invariant-loop-place
invariant-loop-place g l =
    let m = g.M.Monoid in
    let lengths = map unsigned_abs l.lengths in
    let before = take l.place (map g.E.Reading.item l.xs) in
    record {
      segment : l.segment ≡ sum (take l.place l.ends);
      places : length l.sums ≡ 128;
      sums : l.sums ≡ reduces_of m.join m.unit lengths before ++ replicate (128 - length l.lengths) m.unit;
      room : length l.xs - l.place ≤ l.run.room;
      written : l.run ≡ with_items l.fn.run (scans_of m.join m.unit lengths before);
    }
