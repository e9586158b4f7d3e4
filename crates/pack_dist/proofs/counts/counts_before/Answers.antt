use Rattle.pack_dist.proofs.Cited.{◌≡◌, IfOk, arith, subst}
use Rattle.pack_dist.proofs.Ones.{tiles_counted}
use Rattle.pack_dist.proofs.counts.counts_before.Goals as goal

pub returns : goal.returns
returns g c =
    subst (λ items. IfOk c.befores_of_readings.result (λ before. before.items ≡ items))
    (tiles_counted c.know_laws.ensures c.args.flags.now _ (omega arith) c.requires.in_limit) c.befores_of_readings.ensures
