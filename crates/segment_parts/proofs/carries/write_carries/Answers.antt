use Rattle.std.proofs.Common.{◌<◌, ◌∙◌, ap, arith, length, map, sym, take_all, zip}
use Rattle.std.proofs.lemmas.Slice.Zip.{length-zip}
use Rattle.cvl_base.specs.Folds.{scan_of}
use Rattle.cvl_base.specs.SegmentMonoid.{seg_join, seg_unit}
use Rattle.segment_parts.specs.Carries.{before_each}
use Rattle.segment_parts.proofs.Carried.{carried_more, written_more}
use Rattle.segment_parts.proofs.carries.write_carries.Goals as goal

pub loop-k-preserved : goal.loop-k-preserved
loop-k-preserved g c =
    let m = g.M.Monoid in let starts = c.args.starts.now in let told = c.args.told.now in let k = c.loop-k.k in let so_far = c.loop-k.invariant in
    let in_told : k < length told = omega (arith, c.loop-k-test.true) in
    let in_starts : k < length starts = omega (arith, in_told, c.requires.starts) in
    record {
      item = c.next_carry-before.ensures.item;
      carried = carried_more m.join m.unit starts told k in_starts in_told c.loop-k.before so_far.carried c.index-told-k.result c.next_carry-before.result c.index-told-k.is
          c.next_carry-before.ensures.next;
      written = written_more m.join m.unit starts told k in_starts in_told c.loop-k.before so_far.carried c.loop-k.out (omega (arith, in_told, c.requires.room)) so_far.written;
    }

pub returns : goal.returns
unfolding before_each
returns g c =
    let m = g.M.Monoid in let pairs = zip c.args.starts.now c.args.told.now in let k = c.loop-k.k in
    sym (take_all k c.loop-k.out (omega (arith, c.requires.room))) ∙ c.loop-k.invariant.written
    ∙ ap (λ ps. map (λ p. p.1) (scan_of (seg_join m.join) (seg_unit m.unit) ps)) (take_all k pairs (omega (arith, length-zip c.args.starts.now c.args.told.now)))
