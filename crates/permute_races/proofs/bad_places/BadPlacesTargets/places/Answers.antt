use Rattle.std.proofs.Common.{ℕ, arith, option_map}
use Rattle.permute_races.proofs.Raced.{long-shown}
use Rattle.permute_races.proofs.bad_places.BadPlacesTargets.places.Goals as goal

pub returns-clause-count : goal.returns-clause-count
returns-clause-count g c = omega (arith, c.min.ensures, c.count.ensures, long-shown (option_map {U = ℕ} (λ number. 0)) (g.F.Faulty.wrongs c.args.self.now.faulty.now))

pub returns-clause-few : goal.returns-clause-few
returns-clause-few g c = omega (arith, long-shown (option_map {U = ℕ} (λ number. 0)) (g.F.Faulty.wrongs c.args.self.now.faulty.now))
