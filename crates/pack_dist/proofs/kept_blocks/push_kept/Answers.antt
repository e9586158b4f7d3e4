use Rattle.pack_dist.proofs.Cited.{◌∙◌, ◌++◌, ap, arith, length, length-drop, count_of}
use Rattle.pack_dist.specs.Kept.{kept_of}
use Rattle.pack_dist.proofs.Packing.{block_more, count-split}
use Rattle.pack_dist.proofs.kept_blocks.push_kept.Goals as goal

pub loop-run-preserved : goal.loop-run-preserved
loop-run-preserved g c =
    let now = c.loop-run in
    let values = now.values.now in
    let flags = now.flags.now in
    let run = now.run in
    let some = c.min-some.result in
    let is = c.push_each-run.ensures in
    let of_values = c.split_at.ensures in
    let of_flags = c.split_at-in-loop-run.ensures in
    record {
      place = (ap (λ r. r.block) is ∙ now.invariant.place.0, ap (λ r. r.first) is ∙ now.invariant.place.1);
      items = (λ i. c.push_each-run.result.items ++ kept_of (of_values.back i) (of_flags.back i))
          ∙ block_more values flags some run.items c.push_each-run.result.items
          (ap (λ r. r.items) is ∙ λ i. run.items ++ kept_of (of_values.front i) (of_flags.front i))
          ∙ now.invariant.items;
      room = omega (arith, ap (λ r. r.room) is, ap count_of of_flags.front, ap count_of of_flags.back, count-split flags some, now.invariant.room, c.requires.room);
      as_long = omega (arith, ap length of_values.back, ap length of_flags.back, length-drop some values, length-drop some flags, now.invariant.as_long);
    }
