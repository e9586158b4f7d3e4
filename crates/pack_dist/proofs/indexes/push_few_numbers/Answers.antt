use Rattle.pack_dist.proofs.Cited.{◌∙◌, ◌-◌, ◌++◌, ap, stretch}
use Rattle.fresh.proofs.Copied.{taken_back}
use Rattle.pack_dist.specs.Progressions.{numbers_from}
use Rattle.pack_dist.proofs.Progressed.{first_numbers, numbers-long}
use Rattle.pack_dist.proofs.indexes.push_few_numbers.Goals as goal

pub returns : goal.returns
returns c =
    let run = c.args.run in let init = c.args.init.now in let stride = c.args.stride.now in let from = c.args.from in
    let fits = c.takes_few.ensures c.if-not-takes_few.false in
    taken_back run c.push_progression-2.result c.without_last.result (numbers_from init stride from 8) 8 c.args.count (numbers-long init stride from 8) fits.0 fits.1 c.push_progression-2.ensures
    c.without_last.ensures
    ∙ ap (λ l. stretch run.block run.first (run.items ++ l) (run.room - c.args.count)) (first_numbers init stride from 8 c.args.count fits.0)
