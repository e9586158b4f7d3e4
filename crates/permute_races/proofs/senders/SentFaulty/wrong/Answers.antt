use Rattle.std.proofs.Common.{sym, arith, eq-eqb, true, false}
use Rattle.std.proofs.lemmas.Bool.{ne_eqb}
use Rattle.permute_races.proofs.Raced.{length-beside, wrong_inside, wrong_now, wrong_outside}
use Rattle.permute_races.proofs.senders.SentFaulty.wrong.Goals as goal

pub at-takes_part-requires : goal.at-takes_part-requires
at-takes_part-requires g c = omega (arith, c.requires, length-beside c.args.self.now.senders.now (g.D.Destinations.destinations c.args.self.now.destinations.now))

pub returns-then-not-takes_part : goal.returns-then-not-takes_part
returns-then-not-takes_part g c =
    sym (wrong_now c.args.self.now.senders.now (g.D.Destinations.destinations c.args.self.now.destinations.now) c.args.place c.requires _ _ c.at-takes_part.ensures false c.if-not-takes_part.true)

pub returns-in_default : goal.returns-in_default
returns-in_default g c =
    sym (wrong_outside c.args.self.now.senders.now (g.D.Destinations.destinations c.args.self.now.destinations.now) c.args.place c.requires c.at-takes_part.result.0.now _ c.at-takes_part.ensures
    c.if-not-takes_part.false c.in_default.ensures.value)

pub returns-then-self-destination : goal.returns-then-self-destination
returns-then-self-destination g c =
    sym (wrong_inside c.args.self.now.senders.now (g.D.Destinations.destinations c.args.self.now.destinations.now) c.args.place c.requires c.at-takes_part.result.0.now _ c.at-takes_part.ensures
    c.in-Some.destination true c.if-not-takes_part.false c.in-Some.ensures.named.1 c.in-Some.ensures.named.0 (eq-eqb _ _ c.if-self-destination.true))

pub returns-else-self-destination : goal.returns-else-self-destination
returns-else-self-destination g c =
    sym (wrong_inside c.args.self.now.senders.now (g.D.Destinations.destinations c.args.self.now.destinations.now) c.args.place c.requires c.at-takes_part.result.0.now _ c.at-takes_part.ensures
    c.in-Some.destination false c.if-not-takes_part.false c.in-Some.ensures.named.1 c.in-Some.ensures.named.0 (ne_eqb _ _ c.if-self-destination.false))
