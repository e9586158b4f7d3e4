use Rattle.std.proofs.Common.{◌≡◌, ◌+◌, ◌-◌, ◌≤◌, ◌∙◌, ap, arith, length}
use Rattle.std.specs.Prelude.{min}
use Rattle.fresh.specs.Found.{first_without}
use Rattle.fresh.specs.Places.{with_items}
use Rattle.permute_walks.specs.Indices.{each_or}
use Rattle.segdes.specs.Starts.{start_of}
use Rattle.segment_sends.proofs.Through.{start_more}
use Rattle.segmented_permutes.proofs.Listed.{values_read}
use Rattle.segmented_permutes.proofs.back_segments.SegmentsTaken.take_segment.Goals as goal

pub returns : goal.returns
returns g c =
    let d = c.args.self.now.index_d.now in
    let s = c.args.s in
    let place = c.args.run.first + length c.args.run.items in
    let n = min (start_of d (s + 1) - place) c.args.run.room in
    let count : c.min-count.result ≡ n =
    omega (arith, c.min-count.ensures, c.start.ensures.value, c.length.ensures, start_more d s c.requires.segment, c.next_place-first.ensures.place, c.room.ensures) in
    let within : place + n ≤ start_of d (s + 1) = omega (arith, c.requires.ends) in
    let read =
    values_read c.args.self.now.fits s c.start-start.result c.length-2.result c.next_place-first.result c.min-count.result place n c.requires.segment c.start-start.ensures.value c.length-2.ensures
    c.next_place-first.ensures.place count c.requires.begins within in
    record {
      run = c.push_at.ensures.run ∙ ap (λ vs. with_items c.args.run (each_or c.args.self.now.other vs)) read;
      found = c.push_at.ensures.found ∙ ap (first_without place) read;
    }
