use Rattle.std.proofs.Common.{◌≡◌, ◌≤◌, IsTrue, drop, length, zip}
use Rattle.segment_parts.specs.Behinds.{behind_each, goes_on}
use Rattle.segment_parts.proofs.behinds.write_behinds.Given as goal

abbrev pub invariant-loop-left : goal.invariant-loop-left
invariant-loop-left g l =
    let m = g.M.Monoid in let pairs = zip l.starts l.told in
    record {
      within : l.left ≤ length l.told;
      item : IsTrue (m.is_item l.behind);
      carried : l.behind ≡ goes_on m.join m.unit (drop l.left pairs);
      written : drop l.left l.out ≡ behind_each m.join m.unit (drop l.left pairs);
    }

abbrev pub decreases-loop-left : goal.decreases-loop-left
decreases-loop-left g l = l.left
