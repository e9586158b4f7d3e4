use Rattle.scan_walks.proofs.Fitted.{scan_fits, scan_overflows}
use Rattle.scan_walks.proofs.checked.check_scan.Goals as goal

pub returns-then-fitting-a : goal.returns-then-fitting-a
returns-then-fitting-a c = cc (scan_overflows c.fitting_of_scan-fitting.result c.args.a.now c.fitting_of_scan-fitting.ensures.front c.if-fitting-a.true, c.at.ensures)

pub returns : goal.returns
returns c = scan_fits c.fitting_of_scan-fitting.result c.args.a.now c.fitting_of_scan-fitting.ensures.front c.if-fitting-a.false
