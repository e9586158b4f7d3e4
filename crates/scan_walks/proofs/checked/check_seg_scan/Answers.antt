use Rattle.scan_walks.proofs.Cited.{rules}
use Rattle.scan_walks.proofs.Fitted.{scans_fit, scans_overflow}
use Rattle.scan_walks.proofs.Segmented.{seg_scan-fits}
use Rattle.scan_walks.proofs.checked.check_seg_scan.Goals as goal

pub returns-then-fitting-a : goal.returns-then-fitting-a
returns-then-fitting-a c = search (rules, scans_overflow)

pub returns : goal.returns
returns c = search (rules, scans_fit, seg_scan-fits)
