use Rattle.std.proofs.Common.{rules}
use Rattle.cvl_base.proofs.Rooms.{differs, told}
use Rattle.operators.proofs.FoldLaws.{length-scan_of}
use Rattle.part_records.proofs.sums.carries.Goals as goal

pub returns-in_err-check_agree : goal.returns-in_err-check_agree
returns-in_err-check_agree c = search (rules, length-scan_of, told, differs)
