use Rattle.std.proofs.Common.{◌∙◌, ap, sym, None}
use Rattle.cvl_base.specs.Permutes.{destination_if}
use Rattle.permute_races.specs.Races.{slot_of}
use Rattle.permute_races.proofs.Raced.{shown-at, slot_read}
use Rattle.permute_races.proofs.senders.SlotsTargets.slot.Goals as goal

pub at-takes_part-requires : goal.at-takes_part-requires
at-takes_part-requires g c = (shown-at (slot_of c.args.self.now.places) (g.D.Destinations.destinations c.args.self.now.destinations.now) c.args.place None None c.requires).0

pub returns-then-not-takes_part-clause-value : goal.returns-then-not-takes_part-clause-value
returns-then-not-takes_part-clause-value g c =
    let is = c.at-takes_part.ensures ∙ ap (destination_if c.at-takes_part.result.0.now) c.if-not-takes_part.true in
    sym (slot_read c.args.self.now.places (g.D.Destinations.destinations c.args.self.now.destinations.now) c.args.place c.requires is)

pub returns-in-Some-clause-value : goal.returns-in-Some-clause-value
returns-in-Some-clause-value g c =
    let is = c.at-takes_part.ensures ∙ ap (destination_if c.at-takes_part.result.0.now) c.if-not-takes_part.false in
    c.in-Some.ensures.value ∙ sym (slot_read c.args.self.now.places (g.D.Destinations.destinations c.args.self.now.destinations.now) c.args.place c.requires is)

pub returns-in-None-clause-value : goal.returns-in-None-clause-value
returns-in-None-clause-value g c =
    let is = c.at-takes_part.ensures ∙ ap (destination_if c.at-takes_part.result.0.now) c.if-not-takes_part.false in
    c.in-None.ensures.value ∙ sym (slot_read c.args.self.now.places (g.D.Destinations.destinations c.args.self.now.destinations.now) c.args.place c.requires is)
