use Rattle.combining_permutes.proofs.Cited.{◌≡◌, ◌+◌, drop, length, sum, outside_by}
use Rattle.combining_permutes.proofs.segments.check_segments.Given as goal

abbrev pub invariant-loop-s : goal.invariant-loop-s
invariant-loop-s l = record {
  total : l.first + sum (drop l.s l.d) ≡ length l.index;
  so_far : outside_by 0 l.d l.room_d l.index ≡ outside_by l.first (drop l.s l.d) (drop l.s l.room_d) (drop l.first l.index);
}
