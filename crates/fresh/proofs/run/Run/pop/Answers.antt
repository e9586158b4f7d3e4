use Rattle.fresh.proofs.Cited.{sym}
use Rattle.fresh.proofs.Places.{last_there, popped}
use Rattle.fresh.proofs.run.Run.pop.Goals as goal

pub read-requires : goal.read-requires
read-requires g c = let there = last_there c.self.invariant c.self.view_is c.requires in (sym c.self.invariant.place.0, there.0, there.1, there.2)

pub invariant_of-self : goal.invariant_of-self
invariant_of-self g c = (popped c.self.invariant c.self.view_is c.requires c.read.new.self c.read.result c.read.ensures.item c.read.ensures.others).0

pub returns-clause-last : goal.returns-clause-last
returns-clause-last g c = (popped c.self.invariant c.self.view_is c.requires c.read.new.self c.read.result c.read.ensures.item c.read.ensures.others).1

pub returns-clause-others : goal.returns-clause-others
returns-clause-others g c = (popped c.self.invariant c.self.view_is c.requires c.read.new.self c.read.result c.read.ensures.item c.read.ensures.others).2
