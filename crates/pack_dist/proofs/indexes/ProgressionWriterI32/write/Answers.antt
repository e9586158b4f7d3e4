use Rattle.pack_dist.proofs.Cited.{◌∙◌, sym, arith}
use Rattle.pack_dist.specs.Progressions.{numbers_from}
use Rattle.pack_dist.proofs.Distributed.{progression-long}
use Rattle.pack_dist.proofs.Progressed.{progression-part}
use Rattle.pack_dist.proofs.Pushed.{filled_up}
use Rattle.pack_dist.proofs.indexes.ProgressionWriterI32.write.Goals as goal

pub push_progression-requires-clause-few : goal.push_progression-requires-clause-few
push_progression-requires-clause-few c =
    let p = c.args.self.now in omega (arith, c.requires.within, progression-long p.init p.stride p.length, p.few, c.first-first.ensures)

pub returns : goal.returns
returns c =
    let p = c.args.self.now in
    let run = c.args.run in
    filled_up run c.push_progression.result (numbers_from p.init p.stride c.first-first.result c.room-count.result) _ c.room-count.result c.push_progression.ensures c.requires.empty
    c.room-count.ensures
    ((λ i. numbers_from p.init p.stride (c.first-first.ensures i) (c.room-count.ensures i))
    ∙ sym (progression-part p.init p.stride p.length run.first run.room (omega (arith, c.requires.within, progression-long p.init p.stride p.length))))
