use Rattle.operators.proofs.FoldLaws.{length-scan_of, slice_get-scan_of, scan_of_push, scan_of_more}
use Rattle.operators.proofs.folds.know_scans.Goals as goal

pub returns : goal.returns
returns g c = record {
  as_long = length-scan_of g.M.Monoid.join g.M.Monoid.unit;
  element = slice_get-scan_of g.M.Monoid.join g.M.Monoid.unit;
  one_more = scan_of_push g.M.Monoid.join g.M.Monoid.unit;
  front = scan_of_more g.M.Monoid.join g.M.Monoid.unit;
}
