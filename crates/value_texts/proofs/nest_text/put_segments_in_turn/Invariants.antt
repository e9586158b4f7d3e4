use Rattle.std.proofs.Common.{◌++◌, length, map, unsigned_abs}
use Rattle.cvl_base.specs.Nests.{cut_of}
use Rattle.value_texts.specs.Texts.{spaced, vector_text}
use Rattle.value_texts.proofs.NestWalk.{IsUnderway}
use Rattle.value_texts.proofs.nest_text.put_segments_in_turn.Given as goal

abbrev pub invariant-loop-first : goal.invariant-loop-first
invariant-loop-first g l =
    IsUnderway g.T.Written.text_of l.fn.text.items (l.fn.text.items ++ spaced (vector_text g.T.Written.text_of) (cut_of (map unsigned_abs l.lengths) l.xs)) l.text.items l.left l.rest

abbrev pub decreases-loop-first : goal.decreases-loop-first
decreases-loop-first g l = length l.left
