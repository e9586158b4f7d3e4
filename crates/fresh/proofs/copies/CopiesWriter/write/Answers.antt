use Rattle.fresh.proofs.Cited.{rules, length-replicate}
use Rattle.fresh.proofs.Copied.{part_of_copies}
use Rattle.fresh.proofs.copies.CopiesWriter.write.Goals as goal

pub returns : goal.returns
returns g c = search (rules, length-replicate, part_of_copies)
