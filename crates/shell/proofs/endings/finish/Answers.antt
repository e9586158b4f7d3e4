use Rattle.std.proofs.Common.{refl}
use Rattle.shell.proofs.Performed.{finishes_by}
use Rattle.shell.proofs.endings.finish.Goals as goal

pub returns-in-None : goal.returns-in-None
returns-in-None g c = finishes_by c.args.answer _ _ _ _ c.in-None.ensures refl

pub returns-in-Some : goal.returns-in-Some
returns-in-Some g c = finishes_by c.args.answer _ _ _ _ c.in-Some.ensures c.status_of.ensures
