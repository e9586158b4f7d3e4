use Rattle.range_walks.proofs.Cited.{rules, ap, ◌∙◌, length-take, length-scan_of}
use Rattle.range_walks.proofs.Scanned.{joined_reading, length-read}
use Rattle.range_walks.proofs.Written.{scan_written}
use Rattle.range_walks.proofs.plain.scan_into.Goals as goal

pub push-requires : goal.push-requires
push-requires g c = search (rules, length-scan_of, length-take)

pub loop-x-preserved : goal.loop-x-preserved
loop-x-preserved g c =
    let m = g.M.Monoid in
    let item = g.E.Reading.item in
    record {
      item = search rules;
      sum = joined_reading m.join item c.args.before c.loop-x.so_far _ c.x-item.result c.args.xs.now _ c.loop-x-test.true c.x-item.is c.loop-x.invariant.sum
          (c.join-so_far.ensures ∙ ap (m.join c.loop-x.so_far) c.item.ensures);
      written = scan_written m.join c.args.run c.loop-x.run c.push.new.self c.args.before c.loop-x.so_far _ _ (length-read item c.args.xs.now _ c.loop-x-test.true) c.loop-x.invariant.written
          c.loop-x.invariant.sum c.push.ensures;
    }
