use Rattle.std.proofs.Common.{◌≡◌, ap, arith, length, map}
use Rattle.std.specs.List.{zip}
use Rattle.cvl_base.specs.Elementwise.{chosen}
use Rattle.element_walks.proofs.Places.{whole_run_of_places, place_in_triple}
use Rattle.element_walks.proofs.choice.ChosenWriter.write.Goals as goal

pub fill-requires : goal.fill-requires
fill-requires g c = λ place from below.
    let none : length c.args.run.items ≡ 0 = ap length c.requires.empty in
    place_in_triple (λ b p. g.O.Single.value (chosen (g.F.Single.value b) p)) c.args.self.now.flags.now c.args.self.now.first.now c.args.self.now.second.now place (omega arith)

pub returns : goal.returns
returns g c =
    let w = c.args.self.now in
    let whole = map (λ p. g.O.Single.value (chosen (g.F.Single.value p.0) p.1)) (zip w.flags.now (zip w.first.now w.second.now)) in
    whole_run_of_places _ whole c.args.run _ c.requires.empty c.requires.within (λ place v is. is) c.fill.ensures
