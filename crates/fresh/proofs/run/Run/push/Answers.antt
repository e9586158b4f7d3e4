use Rattle.fresh.proofs.Places.{pushed_on}
use Rattle.fresh.proofs.run.Run.push.Goals as goal

pub invariant_of-self : goal.invariant_of-self
invariant_of-self g c = (pushed_on c.self.invariant c.self.view_is c.write.new.self c.args.item c.requires c.write.ensures).0

pub returns : goal.returns
returns g c = (pushed_on c.self.invariant c.self.view_is c.write.new.self c.args.item c.requires c.write.ensures).1
