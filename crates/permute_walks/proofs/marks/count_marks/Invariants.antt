use Rattle.permute_walks.proofs.Cited.{◌≡◌, ◌≤◌, ◌*◌, count_ones, sum_by, take}
use Rattle.permute_walks.proofs.marks.count_marks.Given as goal

abbrev pub invariant-loop-word : goal.invariant-loop-word
invariant-loop-word l = record {
  count_is : l.count ≡ sum_by count_ones (take l.word-index l.marks);
  at_most : l.count ≤ 4294967296 * l.word-index;
}
