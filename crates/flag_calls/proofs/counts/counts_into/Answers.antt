use Rattle.std.proofs.Common.{rules, ◌≡◌, ◌∙◌, ◌+◌, ◌-◌, [], ◌∷◌, ap, arith, drop, map, sym, unsigned_abs, w32}
use Rattle.std.proofs.lemmas.Int.{to_z-of_z}
use Rattle.std.proofs.lemmas.List.Sums.{sum_by-drop_more}
use mir.Val.{SFits}
use Rattle.cvl_base.specs.Nests.{cut_of}
use Rattle.range_walks.proofs.Segments.{cut_more, length_fits, read_at, segment_read}
use Rattle.range_walks.proofs.Written.{written_more}
use Rattle.flag_calls.specs.Flags.{count_in}
use Rattle.flag_calls.proofs.counts.counts_into.Goals as goal

pub overflow_cast-length : goal.overflow_cast-length
overflow_cast-length c =
    let row = c.args.lengths.now in
    length_fits row (map unsigned_abs row) c.requires.lengths.none_negative c.requires.lengths c.loop-length.length-index c.loop-length-test.true

pub split_at-requires : goal.split_at-requires
split_at-requires c =
    let row = c.args.lengths.now in let lengths = map unsigned_abs row in let s = c.loop-length.length-index in
    let read = segment_read row lengths c.requires.lengths.none_negative c.requires.lengths s c.loop-length-test.true in
    omega (arith, read.1, c.loop-length.invariant.covered, sum_by-drop_more (λ x. x) lengths s 0 read.0)

pub loop-length-preserved : goal.loop-length-preserved
loop-length-preserved c =
    let row = c.args.lengths.now in let lengths = map unsigned_abs row in let s = c.loop-length.length-index in
    let read = segment_read row lengths c.requires.lengths.none_negative c.requires.lengths s c.loop-length-test.true in
    let left : c.push.new.self.room ≡ c.loop-length.run.room - 1 = ap (λ r. r.room) c.push.ensures in
    let fits : SFits w32 c.count.result = search rules in
    record {
      whole = written_more c.loop-length.run c.push.new.self _ (c.count.result ∷ []) _ _ (rw (to_z-of_z w32 c.count.result fits) at c.push.ensures)
          (ap (map count_in) (cut_more lengths s (read_at row s) c.loop-length.rest.now _ _ read.0 read.1 c.split_at.ensures.front c.split_at.ensures.back)
          ∙ ap (λ z. z ∷ map count_in (cut_of (drop (s + 1) lengths) c.split_at.result.1.now)) (sym c.count.ensures)) c.loop-length.invariant.whole;
      covered = omega (arith, read.1, c.split_at.ensures.back_len, c.loop-length.invariant.covered, sum_by-drop_more (λ x. x) lengths s 0 read.0);
      room = omega (arith, left, c.loop-length.invariant.room, c.loop-length-test.true);
      few = omega (arith, c.split_at.ensures.back_len, c.loop-length.invariant.few);
    }
