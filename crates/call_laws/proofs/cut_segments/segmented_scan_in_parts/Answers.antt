use Rattle.call_laws.proofs.Cited.{length}
use Rattle.call_laws.proofs.Carries.{scan-plain, scans-between, scans-inside}
use Rattle.call_laws.proofs.TwoParts.{two-parts}
use Rattle.call_laws.proofs.cut_segments.segmented_scan_in_parts.Goals as goal

pub returns : goal.returns
returns g c =
    let join = g.M.Monoid.join in
    let unit = g.M.Monoid.unit in
    record {
      inside = λ carry out xs ys closed lengths more m n total also_total reduced.
          two-parts (scans-inside join unit carry lengths m n more xs ys closed out total also_total reduced) (length xs);
      between = λ carry xs ys k lengths more total also_total.
          rw (← scan-plain join unit ys more) (two-parts (scans-between join unit carry k lengths more xs ys total also_total) (length xs));
      call = scan-plain join unit;
    }
