use Rattle.std.proofs.Common.{◌≡◌, ◌∙◌, ap, drop, take}
use Rattle.cvl_base.specs.Folds.{scan_of}
use Rattle.cvl_base.specs.SegmentedCalls.{seg_scan_of}
use Rattle.range_walks.specs.Ranges.{scans_of}
use Rattle.segment_parts.proofs.Scanned.{put_together, whole-scans, writes, written}
use Rattle.segment_parts.proofs.parts.part_scan_in.Goals as goal

pub returns : goal.returns
returns g c =
    let m = g.M.Monoid in let a = c.args.a.now in let head = c.args.head in let lengths = c.args.lengths.now in let first = c.split_at_mut-front in let then = c.split_at_mut-whole in
    let enough = c.in_ok-check_fits.ensures in let n = c.total.result in let total = c.total.ensures.value in
    let others = first.ensures.back in
    let whole : then.result.0.now ≡ take n (drop head a) = then.ensures.front ∙ ap (take n) others in
    let behind : then.result.1.now ≡ drop n (drop head a) = then.ensures.back ∙ ap (drop n) others in
    let did = written (seg_scan_of m.join m.unit then.result.0.now lengths) c.seg_scan_in.result (scans_of m.join m.unit lengths (drop head a)) then.result.0.now c.seg_scan_in.new.a
    (ap (λ xs. seg_scan_of m.join m.unit xs lengths) whole ∙ whole-scans m.join m.unit c.args.before head lengths a enough n total) c.seg_scan_in.ensures in
    writes _ c.seg_scan_in.result a _
    (put_together m.join m.unit c.args.before head lengths a enough n total c.scan_in.new.a c.seg_scan_in.new.a c.scan_in-2.new.a
    (c.scan_in.ensures ∙ ap (scan_of m.join c.args.before) first.ensures.front) did.1
    (c.scan_in-2.ensures ∙ (λ i. scan_of m.join (c.unit.ensures i) (behind i))))
    did.0
