use Rattle.checked_tile_scans.proofs.Cited.{◌≡◌, ◌+◌, ◌-◌, ◌<◌, ◌∙◌, ℕ, to_z, of_z, w32, w64, arith, length, map, get_or, pos, ap, sym, None, to_z-of_z, get_or-map, length-map, fitting, wrap}
use Rattle.checked_tile_scans.proofs.Cited.{first_without, part, next_is}
use Rattle.checked_tile_scans.specs.Checked.{segment_totals}
use Rattle.checked_tile_scans.proofs.FirstWithout.{found_more, one_more_written}
use Rattle.checked_tile_scans.proofs.SegmentTotals.{length-segment_totals}
use Rattle.checked_tile_scans.proofs.segment_sums.SegmentSumsCheckedWriterI32.write.Goals as goal

pub sum-sum-requires : goal.sum-sum-requires
sum-sum-requires g c =
    let sums = c.args.self.now in
    let totals = segment_totals sums.segments.now sums.vector.now.elements.now in
    let at = next_is (map wrap totals) c.args.run c.requires.within c.loop-run.run c.loop-run.invariant.written in
    omega (arith, length-map totals wrap, c.loop-run-test.true, c.room.ensures, length-segment_totals sums.segments.now sums.vector.now.elements.now)

pub loop-run-preserved : goal.loop-run-preserved
loop-run-preserved g c =
    let sums = c.args.self.now in
    let totals = segment_totals sums.segments.now sums.vector.now.elements.now in
    let old = c.args.run in
    let run = c.loop-run.run in
    let some : 0 < run.room = omega (arith, c.loop-run-test.true, c.room.ensures) in
    let at = next_is (map wrap totals) old c.requires.within run c.loop-run.invariant.written in
    let n : ℕ = old.room - run.room in
    let place : c.next_place-place.result ≡ old.first + n = omega (arith, at, c.next_place-place.ensures.place) in
    let inside : old.first + n < length totals = omega (arith, c.requires.within, length-map totals wrap, c.loop-run.invariant.written.left, some) in
    let back : to_z w64 (of_z w64 c.sum-sum.result) ≡ c.sum-sum.result = grind (arith, to_z-of_z) in
    let narrow : to_z w32 (of_z w32 c.from_word.result) ≡ c.from_word.result = grind (arith, to_z-of_z) in
    let sum : to_z w64 (of_z w64 c.sum-sum.result) ≡ get_or totals (old.first + n) (pos 0) = back ∙ c.sum-sum.ensures ∙ ap (λ p. get_or totals p (pos 0)) place in
    let written = one_more_written totals old c.requires.within run c.push.new.self _ some c.loop-run.invariant.written
    (narrow ∙ c.from_word.ensures ∙ ap wrap (sum ∙ ap (λ p. get_or totals p (pos 0)) (sym at))) c.push.ensures in
    let more : n + 1 ≡ old.room - c.push.new.self.room = omega (arith, written.0, some, c.loop-run.invariant.written.left) in
    record {
      written = written.1;
      outside = found_more (map fitting totals) old.first n c.next_place-place.result c.fitting.result c.loop-run.outside c.first_found-outside.result
          (omega (arith, inside, length-map totals fitting)) place (c.fitting.ensures ∙ ap fitting sum ∙ sym (get_or-map fitting totals (old.first + n) (pos 0) None inside))
          c.loop-run.invariant.outside c.first_found-outside.ensures
          ∙ ap (λ k. first_without old.first (part (map fitting totals) old.first k)) more;
    }
