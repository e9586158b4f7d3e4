use Rattle.std.proofs.Common.{◌≡◌, ◌-◌, ◌≤◌, length, drop, map, unsigned_abs}
use Rattle.std.specs.Prelude.{sum}
use Rattle.cvl_base.specs.Limits.{most_places}
use Rattle.cvl_base.specs.Nests.{cut_of}
use Rattle.flag_calls.specs.Flags.{count_in}
use Rattle.fresh.specs.Places.{with_items}
use Rattle.flag_calls.proofs.counts.counts_into.Given as goal

-- what is written with what is left to be written is the whole
abbrev pub invariant-loop-length : goal.invariant-loop-length
invariant-loop-length l =
    let lengths = map unsigned_abs l.lengths in
    record {
      whole : with_items l.run (map count_in (cut_of (drop l.length-index lengths) l.rest)) ≡ with_items l.fn.run (map count_in (cut_of lengths l.bytes));
      covered : sum (drop l.length-index lengths) ≤ length l.rest;
      room : length l.lengths - l.length-index ≤ l.run.room;
      few : length l.rest ≤ most_places;
    }
