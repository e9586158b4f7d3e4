use Rattle.std.proofs.Common.{◌∙◌, sym}
use Rattle.permute_races.proofs.Raced.{length-beside}
use Rattle.permute_races.proofs.senders.SentFaulty.count.Goals as goal

pub returns : goal.returns
returns g c = c.count.ensures ∙ sym (length-beside c.args.self.now.senders.now (g.D.Destinations.destinations c.args.self.now.destinations.now))
