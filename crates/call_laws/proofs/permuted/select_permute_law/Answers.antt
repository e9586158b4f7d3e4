use Rattle.call_laws.proofs.Selecting.{select-meaning}
use Rattle.call_laws.proofs.permuted.select_permute_law.Goals as goal

pub returns : goal.returns
returns g c = select-meaning
