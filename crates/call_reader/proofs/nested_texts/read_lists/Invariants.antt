use Rattle.call_reader.proofs.Cited.{◌≡◌, ◌≤◌, length, vec_len, vec_capacity, AreListsRead}
use Rattle.call_reader.proofs.nested_texts.read_lists.Given as goal

abbrev pub invariant-loop-inner : goal.invariant-loop-inner
invariant-loop-inner g l = record {
  read : AreListsRead l.bytes l.rest l.numbers.items l.lengths.items;
  capacity_numbers : vec_capacity l.numbers ≡ l.room;
  capacity_lengths : vec_capacity l.lengths ≡ l.room;
  few_numbers : vec_len l.numbers ≤ l.room;
  few_lists : vec_len l.lengths ≤ l.room;
}

abbrev pub decreases-loop-inner : goal.decreases-loop-inner
decreases-loop-inner g l = length l.rest
