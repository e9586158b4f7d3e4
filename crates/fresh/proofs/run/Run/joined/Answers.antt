use Rattle.fresh.proofs.Places.{joined_with}
use Rattle.fresh.proofs.run.Run.joined.Goals as goal

pub invariant_of-result : goal.invariant_of-result
invariant_of-result g c = (joined_with c.self.invariant c.self.view_is c.next.invariant c.next.view_is c.merge.result c.requires.0 c.requires.1 c.merge.ensures).0

pub returns : goal.returns
returns g c = (joined_with c.self.invariant c.self.view_is c.next.invariant c.next.view_is c.merge.result c.requires.0 c.requires.1 c.merge.ensures).1
