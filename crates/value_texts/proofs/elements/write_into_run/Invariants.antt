use Rattle.std.proofs.Common.{◌≡◌, ◌≤◌, length}
use Rattle.fresh.specs.Places.{with_items}
use Rattle.value_texts.specs.Texts.{spaced}
use Rattle.value_texts.proofs.elements.write_into_run.Given as goal

-- what is written with what is left to write is the whole, for which there is room
abbrev pub invariant-loop-rest : goal.invariant-loop-rest
invariant-loop-rest g l = record {
  whole : with_items l.run (spaced g.T.Written.text_of l.rest) ≡ with_items l.fn.run (spaced g.T.Written.text_of l.xs);
  room : length (spaced g.T.Written.text_of l.rest) ≤ l.run.room;
}

abbrev pub decreases-loop-rest : goal.decreases-loop-rest
decreases-loop-rest g l = length l.rest
