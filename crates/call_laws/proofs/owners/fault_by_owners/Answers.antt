use Rattle.call_laws.proofs.FirstFound.{first-by_owners}
use Rattle.call_laws.proofs.owners.fault_by_owners.Goals as goal

pub returns : goal.returns
returns c = first-by_owners
