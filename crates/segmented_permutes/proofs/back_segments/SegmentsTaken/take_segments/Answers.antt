use Rattle.std.proofs.Common.{◌≡◌, ◌∙◌, ◌+◌, ◌-◌, ◌<◌, ◌≤◌, arith, ap, drop, get_or, length, map, refl, sym, take, unwrap_or}
use Rattle.std.specs.Prelude.{min}
use Rattle.std.proofs.lemmas.List.{length-map}
use Rattle.cvl_base.specs.Extracts.{element_at}
use Rattle.fresh.specs.Found.{first_without}
use Rattle.fresh.specs.Parts.{part}
use Rattle.fresh.specs.Places.{with_items}
use Rattle.permute_walks.specs.Indices.{each_or}
use Rattle.segdes.specs.Starts.{start_of}
use Rattle.segdes.proofs.Sums.{segment_within}
use Rattle.segment_sends.proofs.Ranges.{length-range}
use Rattle.segment_sends.proofs.Through.{start_more}
use Rattle.segmented_permutes.specs.Backs.{values_at}
use Rattle.segmented_permutes.proofs.Listed.{left_from, left_whole, length-values, reaches, taken_all, taken_first, taken_next, values_read}
use Rattle.segmented_permutes.proofs.back_segments.SegmentsTaken.take_segments.Goals as goal

pub loop-s-init : goal.loop-s-init
loop-s-init g c =
    let w = c.args.self.now in
    let d = w.index_d.now in
    let values = values_at w.source_d.now w.source.now d w.index.now in
    let within : c.args.run.first + c.args.run.room ≤ length values = omega (arith, c.requires.within, length-map values (λ v. unwrap_or v w.other)) in
    let first : c.next_place-first.result ≡ c.args.run.first = omega (arith, c.next_place-first.ensures.place, ap length c.requires.empty) in
    let taken = taken_first c.requires.empty within c.next_place-first.result c.starts_before.result c.saturating_sub-begin.result first c.saturating_sub-begin.ensures
    (omega (arith, within, length-values w.fits, w.fits.total)) c.starts_before.ensures.before c.starts_before.ensures.others in
    record { taken = taken; start = c.start_or_total-start.ensures; end = c.start_or_total-end.ensures }

pub returns-then-begin-past : goal.returns-then-begin-past
returns-then-begin-past g c =
    let w = c.args.self.now in
    let d = w.index_d.now in
    let values = values_at w.source_d.now w.source.now d w.index.now in
    let within : c.args.run.first + c.args.run.room ≤ length values = omega (arith, c.requires.within, length-map values (λ v. unwrap_or v w.other)) in
    let first : c.next_place-first.result ≡ c.args.run.first = omega (arith, c.next_place-first.ensures.place, ap length c.requires.empty) in
    let past = c.starts_before-past.result in
    let end : c.args.run.first + c.args.run.room ≡ c.next_place-first.result + c.room.result = omega (arith, first, c.room.ensures) in
    let ended : c.args.run.first + c.args.run.room ≤ start_of d past =
    reaches d past (c.args.run.first + c.args.run.room) (λ lt. omega (arith, end, c.starts_before-past.ensures.others past (omega arith) lt))
    (omega (arith, within, length-values w.fits, w.fits.total)) in
    let taken = taken_first c.requires.empty within c.next_place-first.result c.starts_before.result c.saturating_sub-begin.result first c.saturating_sub-begin.ensures
    (omega (arith, within, length-values w.fits, w.fits.total)) c.starts_before.ensures.before c.starts_before.ensures.others in
    let all = taken_all c.requires.empty within taken past ended c.if-begin-past.true in record { run = all.0; found = all.1 }

pub slice_bounds-source-end : goal.slice_bounds-source-end
slice_bounds-source-end g c =
    let w = c.args.self.now in
    let s = c.loop-s.s in
    let lt : s < length w.source_d.now = omega (arith, c.loop-s-test.true, c.starts_before-past.ensures.in_count, w.fits.count) in
    let width : c.length.result ≡ get_or w.source_d.now s 0 = c.length.ensures ∙ ap (λ ls. get_or ls s 0) c.as_lengths-widths.ensures in
    omega (arith, c.loop-s.invariant.start, width, segment_within w.source_d.now s lt, w.fits.source_total)

pub slice_bounds-index-end : goal.slice_bounds-index-end
slice_bounds-index-end g c =
    let w = c.args.self.now in
    let s = c.loop-s.s in
    let lt : s < length w.index_d.now = omega (arith, c.loop-s-test.true, c.starts_before-past.ensures.in_count) in
    let many : c.length-end.result ≡ get_or w.index_d.now s 0 = c.length-end.ensures ∙ ap (λ ls. get_or ls s 0) c.as_lengths-lengths.ensures in
    omega (arith, c.loop-s.invariant.end, many, segment_within w.index_d.now s lt, w.fits.total)

pub loop-s-preserved : goal.loop-s-preserved
loop-s-preserved g c =
    let w = c.args.self.now in
    let d = w.index_d.now in
    let values = values_at w.source_d.now w.source.now d w.index.now in
    let within : c.args.run.first + c.args.run.room ≤ length values = omega (arith, c.requires.within, length-map values (λ v. unwrap_or v w.other)) in
    let widths = w.source_d.now in
    let run = c.loop-s.run in
    let s = c.loop-s.s in
    let start = c.loop-s.start in
    let m = c.length.result in
    let first = c.next_place.result in
    let end = c.loop-s.end + c.length-end.result in
    let place = run.first + length run.items in
    let n = min (start_of d (s + 1) - place) run.room in
    let lt : s < length d = omega (arith, c.loop-s-test.true, c.starts_before-past.ensures.in_count) in
    let some : s < length widths = omega (arith, lt, w.fits.count) in
    let width : m ≡ get_or widths s 0 = c.length.ensures ∙ ap (λ ls. get_or ls s 0) c.as_lengths-widths.ensures in
    let long : c.length-end.result ≡ get_or d s 0 = c.length-end.ensures ∙ ap (λ ls. get_or ls s 0) c.as_lengths-lengths.ensures in
    let ends : end ≡ start_of d (s + 1) = omega (arith, c.loop-s.invariant.end, long, start_more d s lt) in
    let past : c.args.run.first + c.args.run.room ≡ c.next_place-first.result + c.room.result =
    omega (arith, c.next_place-first.ensures.place, ap length c.requires.empty, c.room.ensures) in
    let left = left_whole c.requires.empty within c.loop-s.invariant.taken (omega (arith, past, c.starts_before-past.ensures.before s (omega (arith, c.loop-s-test.true))))
    (omega (arith, past, c.starts_before-past.ensures.before (s + 1) (omega (arith, c.loop-s-test.true)))) in
    let at = c.next_place.ensures.place in
    let many : end - first ≡ first + n - first = omega (arith, ends, at, left.ends, left.room) in
    let segment = take (start + m - start) (drop start w.source.now) in
    let read : map (element_at segment) (take (end - first) (drop first w.index.now)) ≡ part values place n =
    ap (λ k. map (element_at segment) (take k (drop first w.index.now))) many
    ∙ values_read w.fits s start m first n place n lt c.loop-s.invariant.start width at refl left.begins (omega (arith, left.ends)) in
    record {
      taken = taken_next c.requires.empty within c.loop-s.invariant.taken place n c.push_at-next.result.0 c.push_at-next.result.1 c.first_of-found.result lt refl refl
          (c.push_at-next.ensures.run ∙ ap (λ vs. with_items run (each_or w.other vs)) read) (c.push_at-next.ensures.found ∙ ap (first_without place) read) c.first_of-found.ensures;
      start = omega (arith, length-range widths w.source.now w.fits.source_total s some start m c.loop-s.invariant.start width, c.loop-s.invariant.start, width, start_more widths s some);
      end = ends;
    }

pub take_segment-run-requires-clause-begins : goal.take_segment-run-requires-clause-begins
take_segment-run-requires-clause-begins g c =
    let w = c.args.self.now in
    let d = w.index_d.now in
    let values = values_at w.source_d.now w.source.now d w.index.now in
    let within : c.args.run.first + c.args.run.room ≤ length values = omega (arith, c.requires.within, length-map values (λ v. unwrap_or v w.other)) in
    let last = c.starts_before-past.result - 1 in
    let at : c.loop-s.s ≡ last = omega (arith, c.if-begin-past.false, c.loop-s-test.false, c.loop-s.auto.s-end) in
    let before : start_of d last < c.args.run.first + c.args.run.room =
    omega (arith, c.starts_before-past.ensures.before last (omega (arith, c.if-begin-past.false)), c.next_place-first.ensures.place, ap length c.requires.empty, c.room.ensures) in
    let same = ap (start_of d) at in
    omega (arith, same, left_from c.requires.empty within c.loop-s.invariant.taken (omega (arith, same, before)))

pub returns : goal.returns
returns g c =
    let w = c.args.self.now in
    let d = w.index_d.now in
    let values = values_at w.source_d.now w.source.now d w.index.now in
    let within : c.args.run.first + c.args.run.room ≤ length values = omega (arith, c.requires.within, length-map values (λ v. unwrap_or v w.other)) in
    let first : c.next_place-first.result ≡ c.args.run.first = omega (arith, c.next_place-first.ensures.place, ap length c.requires.empty) in
    let past = c.starts_before-past.result in
    let end : c.args.run.first + c.args.run.room ≡ c.next_place-first.result + c.room.result = omega (arith, first, c.room.ensures) in
    let ended : c.args.run.first + c.args.run.room ≤ start_of d past =
    reaches d past (c.args.run.first + c.args.run.room) (λ lt. omega (arith, end, c.starts_before-past.ensures.others past (omega arith) lt))
    (omega (arith, within, length-values w.fits, w.fits.total)) in
    let run = c.loop-s.run in
    let place = run.first + length run.items in
    let at : c.loop-s.s ≡ past - 1 = omega (arith, c.if-begin-past.false, c.loop-s-test.false, c.loop-s.auto.s-end) in
    let lt : c.loop-s.s < length d = omega (arith, at, c.if-begin-past.false, c.starts_before-past.ensures.in_count) in
    let taken =
    taken_next c.requires.empty within c.loop-s.invariant.taken place (min (start_of d (past - 1 + 1) - place) run.room) c.take_segment-run.result.0 c.take_segment-run.result.1
    c.first_of.result lt refl
    (ap (λ s. min (start_of d (s + 1) - place) run.room) (sym at)) c.take_segment-run.ensures.run c.take_segment-run.ensures.found c.first_of.ensures in
    let all = taken_all c.requires.empty within taken past ended (omega (arith, at)) in record { run = all.0; found = all.1 }
