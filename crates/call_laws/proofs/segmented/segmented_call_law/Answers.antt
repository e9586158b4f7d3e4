use Rattle.call_laws.proofs.Segments.{results-meaning, first-fault}
use Rattle.call_laws.proofs.segmented.segmented_call_law.Goals as goal

pub returns : goal.returns
returns g c = record { results = results-meaning; first_fault = first-fault }
