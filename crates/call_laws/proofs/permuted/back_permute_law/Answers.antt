use Rattle.call_laws.proofs.BackPermutes.{back-meaning}
use Rattle.call_laws.proofs.permuted.back_permute_law.Goals as goal

pub returns : goal.returns
returns g c = back-meaning
