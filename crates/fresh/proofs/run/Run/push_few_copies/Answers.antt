use Rattle.fresh.proofs.Cited.{◌∙◌, ◌-◌, ◌++◌, ap, length-replicate, replicate, stretch, take-replicate}
use Rattle.fresh.proofs.Copied.{taken_back}
use Rattle.fresh.proofs.run.Run.push_few_copies.Goals as goal

pub returns : goal.returns
returns g c =
    let run = c.args.self in
    let fits = c.takes_few.ensures c.if-not-takes_few.false in
    taken_back run c.push_copies-2.result c.without_last.result (replicate 8 c.args.item) 8 c.args.count (length-replicate 8 c.args.item) fits.0 fits.1 c.push_copies-2.ensures c.without_last.ensures
    ∙ ap (λ l. stretch run.block run.first (run.items ++ l) (run.room - c.args.count)) (take-replicate c.args.count 8 c.args.item fits.0)
