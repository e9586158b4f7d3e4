use Rattle.call_laws.proofs.Sending.{default-meaning}
use Rattle.call_laws.proofs.permuted.default_permute_law.Goals as goal

pub returns : goal.returns
returns g c = default-meaning
