use Rattle.range_walks.proofs.Cited.{rules, ap, ◌∙◌}
use Rattle.range_walks.proofs.Scanned.{joined_reading}
use Rattle.range_walks.proofs.plain.sum_from.Goals as goal

pub loop-x-preserved : goal.loop-x-preserved
loop-x-preserved g c =
    let m = g.M.Monoid in
    record {
      item = search rules;
      sum = joined_reading m.join g.E.Reading.item c.args.before c.loop-x.sum _ c.x-item.result c.args.xs.now _ c.loop-x-test.true c.x-item.is c.loop-x.invariant.sum
          (c.join-sum.ensures ∙ ap (m.join c.loop-x.sum) c.item.ensures);
    }
