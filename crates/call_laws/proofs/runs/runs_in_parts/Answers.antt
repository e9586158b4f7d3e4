use Rattle.run_lengths.proofs.Fronts.{numbers-append}
use Rattle.call_laws.proofs.RunsInParts.{begins, goes_on, longer, runs_in-append}
use Rattle.call_laws.proofs.runs.runs_in_parts.Goals as goal

pub returns : goal.returns
returns g c = record { begins = begins; goes_on = goes_on; segments = runs_in-append; numbers = numbers-append; longer = longer }
