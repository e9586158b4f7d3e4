use Rattle.call_reader.proofs.Cited.{◌≡◌, ◌≤◌, length, vec_len, vec_capacity, ArePushed}
use Rattle.call_reader.proofs.nested_texts.push_numbers.Given as goal

abbrev pub invariant-loop-number : goal.invariant-loop-number
invariant-loop-number g l = record {
  pushed : ArePushed l.bytes l.rest l.fn.numbers.items l.numbers.items;
  capacity : vec_capacity l.numbers ≡ vec_capacity l.fn.numbers;
  within : vec_len l.numbers ≤ vec_capacity l.fn.numbers;
  no_longer : length l.rest ≤ length l.bytes;
}

abbrev pub decreases-loop-number : goal.decreases-loop-number
decreases-loop-number g l = length l.rest
