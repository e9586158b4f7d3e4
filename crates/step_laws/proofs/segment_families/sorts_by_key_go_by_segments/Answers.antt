use Rattle.step_laws.proofs.Families.{sorted-by-key}
use Rattle.step_laws.proofs.segment_families.sorts_by_key_go_by_segments.Goals as goal

pub returns : goal.returns
returns g c = λ before parts keys values lengths segments are few fit many. sorted-by-key parts keys values lengths segments are few fit many before
