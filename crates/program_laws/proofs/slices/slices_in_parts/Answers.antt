use Rattle.program_laws.proofs.Slicing.{gather-two}
use Rattle.program_laws.proofs.slices.slices_in_parts.Goals as goal

pub returns : goal.returns
returns g c = gather-two
