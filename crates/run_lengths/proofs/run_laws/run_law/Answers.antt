use Rattle.run_lengths.proofs.Parted.{are_runs}
use Rattle.run_lengths.proofs.run_laws.run_law.Goals as goal

pub returns : goal.returns
returns g c = λ differ xs. are_runs differ xs
