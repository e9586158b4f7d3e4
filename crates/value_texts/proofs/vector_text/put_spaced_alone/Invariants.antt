use Rattle.std.proofs.Common.{◌≡◌, ◌+◌, ◌*◌, ◌≤◌, ◌++◌, length, take, vec_len, vec_capacity}
use Rattle.value_texts.specs.Texts.{spaced}
use Rattle.value_texts.proofs.vector_text.put_spaced_alone.Given as goal

-- what is written with what is left to write is the whole, and the text begins as before
abbrev pub invariant-loop-rest : goal.invariant-loop-rest
invariant-loop-rest g l = record {
  whole : l.text.items ++ spaced g.T.Written.text_of l.rest ≡ l.fn.text.items ++ spaced g.T.Written.text_of l.xs;
  begins : take (length l.fn.text.items) l.text.items ≡ l.fn.text.items;
  room : vec_len l.fn.text + 12 * length l.xs ≤ vec_capacity l.fn.text → vec_len l.text + 12 * length l.rest ≤ vec_capacity l.text;
  capacity : vec_capacity l.fn.text ≤ vec_capacity l.text;
}

abbrev pub decreases-loop-rest : goal.decreases-loop-rest
decreases-loop-rest g l = length l.rest
