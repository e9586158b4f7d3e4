use Rattle.least_races.proofs.Answering.{lowered_one}
use Rattle.least_races.proofs.least_work.LeastWork.lower_after.Goals as goal

pub returns-in-Some-clause-own : goal.returns-in-Some-clause-own
returns-in-Some-clause-own g c = lowered_one c.in-Some.slot c.args.place c.args.seat.now c.lower.new.seat c.lower.ensures.lowered
