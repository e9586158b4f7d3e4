use Rattle.std.proofs.Common.{◌≡◌, ◌≤◌, length, map, sum, drop, unsigned_abs}
use Rattle.cvl_base.specs.Nests.{cut_of}
use Rattle.fresh.specs.Places.{with_items}
use Rattle.value_texts.specs.Texts.{spaced, vector_text}
use Rattle.value_texts.proofs.segments.write_segments.Given as goal

-- what is written with what is left to write is the whole, for which there is room
abbrev pub invariant-loop-length : goal.invariant-loop-length
invariant-loop-length g l =
    let lengths = map unsigned_abs (drop l.length-index l.lengths) in
    record {
      whole : with_items l.run (spaced (vector_text g.T.Written.text_of) (cut_of lengths l.rest))
          ≡ with_items l.fn.run (spaced (vector_text g.T.Written.text_of) (cut_of (map unsigned_abs l.lengths) l.xs));
      room : length (spaced (vector_text g.T.Written.text_of) (cut_of lengths l.rest)) ≤ l.run.room;
      total : sum lengths ≡ length l.rest;
    }
