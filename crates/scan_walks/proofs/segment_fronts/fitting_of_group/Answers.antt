use Rattle.scan_walks.proofs.Cited.{rules, to_z-of_z}
use Rattle.scan_walks.proofs.BlockLaws.{segments_fit}
use Rattle.scan_walks.proofs.segment_fronts.fitting_of_group.Goals as goal

pub returns-then-leads_within-clause-front : goal.returns-then-leads_within-clause-front
returns-then-leads_within-clause-front c = search (rules, to_z-of_z, segments_fit)
