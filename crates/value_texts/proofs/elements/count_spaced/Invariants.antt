use Rattle.std.proofs.Common.{◌≡◌, ◌+◌, ◌*◌, ◌≤◌, length, drop}
use Rattle.value_texts.specs.Texts.{spaced}
use Rattle.value_texts.proofs.elements.count_spaced.Given as goal

-- what is counted with what is left to count is the whole
abbrev pub invariant-loop-x : goal.invariant-loop-x
invariant-loop-x g l = record {
  whole : l.bytes + length (spaced g.T.Written.text_of (drop l.x-index l.xs)) ≡ length (spaced g.T.Written.text_of l.xs);
  few : l.bytes ≤ 12 * l.x-index;
}
