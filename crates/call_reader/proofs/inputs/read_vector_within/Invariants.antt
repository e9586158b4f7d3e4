use Rattle.call_reader.proofs.Cited.{◌≡◌, ◌+◌, ◌≤◌, length, vec_len, vec_capacity, after, tokens_by, input_class}
use Rattle.call_reader.proofs.InputWalk.{count_of, numbers_from}
use Rattle.call_reader.proofs.inputs.read_vector_within.Given as goal

abbrev pub invariant-loop-token : goal.invariant-loop-token
invariant-loop-token g l = record {
  small : vec_len l.numbers ≤ l.most;
  room : vec_capacity l.numbers ≡ l.room;
  count : vec_len l.numbers + count_of l.rest ≡ count_of l.bytes;
  so_far : numbers_from 0 (tokens_by input_class l.bytes) ≡ after l.numbers.items (numbers_from (vec_len l.numbers) (tokens_by input_class l.rest));
}

abbrev pub decreases-loop-token : goal.decreases-loop-token
decreases-loop-token g l = length l.rest
