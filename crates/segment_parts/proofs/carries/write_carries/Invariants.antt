use Rattle.std.proofs.Common.{◌≡◌, IsTrue, map, take, zip}
use Rattle.cvl_base.specs.Folds.{fold_of, scan_of}
use Rattle.cvl_base.specs.SegmentMonoid.{seg_join, seg_unit}
use Rattle.segment_parts.proofs.carries.write_carries.Given as goal

abbrev pub invariant-loop-k : goal.invariant-loop-k
invariant-loop-k g l =
    let m = g.M.Monoid in
    record {
      item : IsTrue (m.is_item l.before);
      carried : l.before ≡ (fold_of (seg_join m.join) (seg_unit m.unit) (take l.k (zip l.starts l.told))).1;
      written : take l.k l.out ≡ map (λ p. p.1) (scan_of (seg_join m.join) (seg_unit m.unit) (take l.k (zip l.starts l.told)));
    }
