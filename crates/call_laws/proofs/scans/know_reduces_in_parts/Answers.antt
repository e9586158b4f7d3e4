use Rattle.call_laws.proofs.InParts.{fold-parts}
use Rattle.call_laws.proofs.scans.know_reduces_in_parts.Goals as goal

pub returns : goal.returns
returns g c = λ parts items. let laws = g.met.M.Monoid.laws in fold-parts laws g.M.Monoid.unit parts laws.unit_is_item items
