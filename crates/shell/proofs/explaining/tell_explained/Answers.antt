use Rattle.std.proofs.Common.{Some, refl}
use Rattle.shell.proofs.Explained.{text_told}
use Rattle.shell.proofs.explaining.tell_explained.Goals as goal

pub returns-in-Script : goal.returns-in-Script
returns-in-Script g c =
    rw c.in-Script.is (Some _, text_told c.in-Script.line c.in-Script.fault c.explain.result _ (rw c.in-Script.is at c.explain.ensures), c.put_explanation.ensures)

pub returns-in-NoResources : goal.returns-in-NoResources
returns-in-NoResources g c = rw c.in-NoResources.is (Some _, refl, c.put_error.ensures)

pub returns-in-WriteFailed : goal.returns-in-WriteFailed
returns-in-WriteFailed g c = rw c.in-WriteFailed.is (Some _, refl, c.put_error-in-WriteFailed.ensures)
