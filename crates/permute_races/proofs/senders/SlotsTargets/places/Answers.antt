use Rattle.std.proofs.Common.{arith}
use Rattle.permute_races.specs.Races.{slot_of}
use Rattle.permute_races.proofs.Raced.{long-shown}
use Rattle.permute_races.proofs.senders.SlotsTargets.places.Goals as goal

pub returns-clause-count : goal.returns-clause-count
returns-clause-count g c = omega (arith, c.min.ensures, c.count.ensures, long-shown (slot_of c.args.self.now.places) (g.D.Destinations.destinations c.args.self.now.destinations.now))

pub returns-clause-few : goal.returns-clause-few
returns-clause-few g c = omega (arith, long-shown (slot_of c.args.self.now.places) (g.D.Destinations.destinations c.args.self.now.destinations.now))
