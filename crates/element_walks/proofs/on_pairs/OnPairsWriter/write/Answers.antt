use Rattle.std.proofs.Common.{map, rules}
use Rattle.std.specs.List.{zip}
use Rattle.element_walks.proofs.Places.{whole_run}
use Rattle.element_walks.proofs.on_pairs.OnPairsWriter.write.Goals as goal

pub returns : goal.returns
returns g c =
    let vs = map (λ p. g.O.Binary.value p.0 p.1) (zip c.args.self.now.first.now c.args.self.now.second.now) in
    whole_run vs c.args.run _ c.requires.empty (c.fill_by_both.ensures g.O.Binary.value (λ x y z is. search rules))
