use Rattle.call_laws.proofs.FirstBadPlaces.{fault-none, fault-outside, fault-again}
use Rattle.call_laws.proofs.permuted.first_bad_place_law.Goals as goal

pub returns : goal.returns
returns c = record { none = fault-none; outside = fault-outside; again = fault-again }
