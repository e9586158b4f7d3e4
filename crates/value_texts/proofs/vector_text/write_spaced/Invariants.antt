use Rattle.std.proofs.Common.{◌≡◌, ◌+◌, ◌*◌, ◌≤◌, length, drop}
use Rattle.value_texts.specs.Texts.{spaced}
use Rattle.value_texts.proofs.vector_text.write_spaced.Given as goal

-- the elements from `left` on are written, and there is room for the others
abbrev pub invariant-loop-left : goal.invariant-loop-left
invariant-loop-left g l = record {
  written : drop l.at l.page ≡ spaced g.T.Written.text_of (drop l.left l.xs);
  room : 12 * l.left ≤ l.at;
  within : l.at ≤ 12288;
  short : 12288 + 12 * l.left ≤ l.at + 12 * length l.xs;
  left : l.left ≤ length l.xs;
}

abbrev pub decreases-loop-left : goal.decreases-loop-left
decreases-loop-left g l = l.left
