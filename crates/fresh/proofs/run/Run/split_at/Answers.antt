use Rattle.fresh.proofs.Places.{front, back}
use Rattle.fresh.proofs.run.Run.split_at.Goals as goal

pub invariant_of-result : goal.invariant_of-result
invariant_of-result g c = (front c.self.invariant c.self.view_is c.split-front.result.0 c.args.k c.requires c.split-front.ensures.first).0

pub invariant_of-result-2 : goal.invariant_of-result-2
invariant_of-result-2 g c = (back c.self.invariant c.self.view_is c.split-front.result.1 c.args.k c.requires c.split-front.ensures.second).0

pub returns-clause-first : goal.returns-clause-first
returns-clause-first g c = (front c.self.invariant c.self.view_is c.split-front.result.0 c.args.k c.requires c.split-front.ensures.first).1

pub returns-clause-second : goal.returns-clause-second
returns-clause-second g c = (back c.self.invariant c.self.view_is c.split-front.result.1 c.args.k c.requires c.split-front.ensures.second).1
