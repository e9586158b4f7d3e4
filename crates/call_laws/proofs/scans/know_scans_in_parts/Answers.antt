use Rattle.call_laws.proofs.InParts.{scan-parts}
use Rattle.call_laws.proofs.scans.know_scans_in_parts.Goals as goal

pub returns : goal.returns
returns g c = λ parts items. let laws = g.met.M.Monoid.laws in scan-parts laws g.M.Monoid.unit parts laws.unit_is_item items
