use Rattle.std.proofs.Common.{◌≡◌, ◌∙◌, ◌≤◌, ◌+◌, ap, arith, length, sym, true}
use Rattle.std.proofs.lemmas.Bool.{ltb-false}
use Rattle.cvl_base.specs.Gives.{◌>>=◌}
use Rattle.cvl_base.specs.Rooms.{at_front, count_or}
use Rattle.run_lengths.proofs.Counted.{most_runs}
use Rattle.run_lengths.proofs.Fronts.{at_front-fits}
use Rattle.run_parts.specs.Runs.{begin_or, lengths_of_runs, run_lengths_of}
use Rattle.run_parts.proofs.PartRuns.{begin-is, fits-call, front, head_fits, left_of_head, long_behind, long_left, many, mid-is, part_runs, rest, within}
use Rattle.segment_parts.specs.Reduces.{is_part}
use Rattle.run_parts.proofs.lengths.part_runs_over.Goals as goal

pub write_segment_runs-requires-clause-fits : goal.write_segment_runs-requires-clause-fits
write_segment_runs-requires-clause-fits g c =
    let d = g.D.Binary.value in let from = c.args.from in let own = c.args.own.now in let n = length own in let head = c.args.head in let a = c.args.a.now in
    let lengths = c.args.lengths.now in let m = c.going_on_in_head.result in
    let there : from + n ≤ length a = ltb-false (length a) (from + n) (sym c.lacks_range.ensures ∙ c.if-lacks_range.false) in
    let is : is_part head lengths n ≡ true = sym c.is_part.ensures ∙ c.if-not-is_part.false in
    let some = c.going_on_in_head.ensures.within in let begin = c.going_on_in_head.ensures.begin in
    let e = c.write_runs-in_head.ensures in
    omega (
      arith,
      e.end,
      e.as_long,
      most_runs d (left_of_head d from n head m lengths a there is some begin),
      long_left d from n head m lengths a there is some begin,
      long_behind d from n head m lengths a there is some begin,
      head_fits d from n head m lengths a there is some begin,
      some,
    )

pub returns-clause-lengths : goal.returns-clause-lengths
returns-clause-lengths g c =
    let d = g.D.Binary.value in let from = c.args.from in let own = c.args.own.now in let n = length own in let head = c.args.head in let a = c.args.a.now in
    let lengths = c.args.lengths.now in let m = c.going_on_in_head.result in
    let there : from + n ≤ length a = ltb-false (length a) (from + n) (sym c.lacks_range.ensures ∙ c.if-lacks_range.false) in
    let is : is_part head lengths n ≡ true = sym c.is_part.ensures ∙ c.if-not-is_part.false in
    let some = c.going_on_in_head.ensures.within in let begin = c.going_on_in_head.ensures.begin in
    let e = c.write_runs-in_head.ensures in let f = c.write_segment_runs.ensures in let one = c.write_runs-in_head.new.own in let two = c.write_segment_runs.new.own in
    let mid = c.write_runs-in_head.result in let end = c.write_segment_runs.result in
    let mid_is = mid-is d from n head m lengths a there is some begin mid e.end in
    let xs = lengths_of_runs (part_runs d from n head m lengths a there is some begin) in
    let meaning = fits-call d from n head m lengths a there is some begin in
    let count = many d from n head m lengths a there is some begin own one two mid end mid_is e.written e.behind f.end f.written f.behind in (
      ap (λ r. run_lengths_of r >>= at_front own) meaning
          ∙ at_front-fits own xs two end count (within d from n head m lengths a there is some begin own one two mid end mid_is e.written e.behind f.end f.written f.behind)
          (front d from n head m lengths a there is some begin own one two mid end mid_is e.written e.behind f.end f.written f.behind)
          (rest d from n head m lengths a there is some begin own one two mid end mid_is e.written e.behind f.end f.written f.behind),
      count ∙ sym (ap (λ r. count_or c.args.count.now (run_lengths_of r)) meaning),
    )

pub returns-clause-begin : goal.returns-clause-begin
returns-clause-begin g c =
    let d = g.D.Binary.value in let from = c.args.from in let own = c.args.own.now in let n = length own in let head = c.args.head in let a = c.args.a.now in
    let lengths = c.args.lengths.now in let m = c.going_on_in_head.result in
    let there : from + n ≤ length a = ltb-false (length a) (from + n) (sym c.lacks_range.ensures ∙ c.if-lacks_range.false) in
    let is : is_part head lengths n ≡ true = sym c.is_part.ensures ∙ c.if-not-is_part.false in
    let some = c.going_on_in_head.ensures.within in let begin = c.going_on_in_head.ensures.begin in
    begin-is d from n head m lengths a there is some begin ∙ sym (ap (begin_or c.args.begin.now (from + n)) (fits-call d from n head m lengths a there is some begin))
