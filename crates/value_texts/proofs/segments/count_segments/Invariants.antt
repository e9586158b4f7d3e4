use Rattle.std.proofs.Common.{◌≡◌, ◌+◌, ◌*◌, ◌≤◌, length, map, sum, drop, unsigned_abs}
use Rattle.cvl_base.specs.Nests.{cut_of}
use Rattle.value_texts.specs.Texts.{spaced, vector_text}
use Rattle.value_texts.proofs.segments.count_segments.Given as goal

-- what is counted with what is left to count is the whole
abbrev pub invariant-loop-length : goal.invariant-loop-length
invariant-loop-length g l =
    let lengths = map unsigned_abs (drop l.length-index l.lengths) in
    record {
      whole : l.bytes + length (spaced (vector_text g.T.Written.text_of) (cut_of lengths l.rest))
          ≡ length (spaced (vector_text g.T.Written.text_of) (cut_of (map unsigned_abs l.lengths) l.xs));
      few : l.bytes + 12 * length l.rest ≤ 3 * l.length-index + 12 * length l.xs;
      total : sum lengths ≡ length l.rest;
      left : length l.rest ≤ length l.xs;
    }
