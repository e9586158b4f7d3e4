use Rattle.std.proofs.Common.{◌∙◌, ap, sym, option_map, None}
use Rattle.permute_races.proofs.Raced.{shown-at}
use Rattle.permute_races.proofs.bad_places.BadPlacesTargets.slot.Goals as goal

pub wrong-requires : goal.wrong-requires
wrong-requires g c = (shown-at (option_map (λ number. 0)) (g.F.Faulty.wrongs c.args.self.now.faulty.now) c.args.place None None c.requires).0

pub returns-in-Some-clause-value : goal.returns-in-Some-clause-value
returns-in-Some-clause-value g c =
    sym ((shown-at (option_map (λ number. 0)) (g.F.Faulty.wrongs c.args.self.now.faulty.now) c.args.place None None c.requires).1 ∙ ap (option_map (λ number. 0)) (sym c.in-Some.ensures))

pub returns-in-None-clause-value : goal.returns-in-None-clause-value
returns-in-None-clause-value g c =
    sym ((shown-at (option_map (λ number. 0)) (g.F.Faulty.wrongs c.args.self.now.faulty.now) c.args.place None None c.requires).1 ∙ ap (option_map (λ number. 0)) (sym c.in-None.ensures))
