use Rattle.program_laws.proofs.Ranges.{ranges-two, whole-range}
use Rattle.program_laws.proofs.matrices.transposes_in_parts.Goals as goal

pub returns : goal.returns
returns g c = record { whole = whole-range; ranges = λ rows columns lowest count more xs few. ranges-two rows columns xs lowest count more few }
