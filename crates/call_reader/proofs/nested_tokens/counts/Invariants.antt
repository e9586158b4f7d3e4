use Rattle.call_reader.proofs.Cited.{◌≡◌, ◌+◌, ◌≤◌, length, count_by, marks_of, is_opening, is_no_bracket}
use Rattle.call_reader.proofs.nested_tokens.counts.Given as goal

abbrev pub invariant-loop-token : goal.invariant-loop-token
invariant-loop-token l = record {
  others_small : l.others + length l.rest ≤ length l.bytes;
  openings_small : l.openings + length l.rest ≤ length l.bytes;
  others_so_far : l.others + count_by is_no_bracket (marks_of l.rest) ≡ count_by is_no_bracket (marks_of l.bytes);
  openings_so_far : l.openings + count_by is_opening (marks_of l.rest) ≡ count_by is_opening (marks_of l.bytes);
}

abbrev pub decreases-loop-token : goal.decreases-loop-token
decreases-loop-token l = length l.rest
