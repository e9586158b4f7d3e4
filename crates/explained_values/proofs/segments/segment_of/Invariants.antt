use Rattle.std.proofs.Common.{◌≡◌, ◌+◌, drop, map}
use Rattle.std.specs.Prelude.{unsigned_abs}
use Rattle.explained_values.specs.Segments.{segment_of}
use Rattle.explained_values.proofs.segments.segment_of.Given as goal

-- the segment is found among those that are left
abbrev pub invariant-loop-segment : goal.invariant-loop-segment
invariant-loop-segment l =
    segment_of (map unsigned_abs l.lengths) l.place ≡ segment_of (map unsigned_abs (drop l.segment l.lengths)) l.left + l.segment
