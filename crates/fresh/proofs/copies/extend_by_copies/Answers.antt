use Rattle.fresh.proofs.Cited.{rules}
use Rattle.fresh.proofs.Copied.{part_of_copies}
use Rattle.fresh.proofs.copies.extend_by_copies.Goals as goal

pub returns-clause-items : goal.returns-clause-items
returns-clause-items g c = search (rules, part_of_copies)
