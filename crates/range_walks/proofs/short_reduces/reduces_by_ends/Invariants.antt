use Rattle.range_walks.proofs.Cited.{◌≡◌, ◌-◌, ◌++◌, ◌≤◌, length, map, unsigned_abs, take, sum, reduces_of, with_items}
use Rattle.std.specs.Prelude.{replicate}
use Rattle.range_walks.proofs.short_reduces.reduces_by_ends.Given as goal

-- the elements before are joined
abbrev pub invariant-loop-place : goal.invariant-loop-place
invariant-loop-place g l =
    let m = g.M.Monoid in
    record {
      segment : l.segment ≡ sum (take l.place l.ends);
      places : length l.sums ≡ 128;
      sums : l.sums ≡ reduces_of m.join m.unit (map unsigned_abs l.lengths) (take l.place (map g.E.Reading.item l.xs)) ++ replicate (128 - length l.lengths) m.unit;
    }

abbrev pub invariant-loop-number : goal.invariant-loop-number
invariant-loop-number g l =
    record {
      room : length l.lengths - l.number ≤ l.run.room;
      written : l.run ≡ with_items l.fn.run (take l.number l.sums);
    }
