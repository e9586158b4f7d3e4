use Rattle.std.proofs.Common.{◌≡◌, ◌∙◌, ◌+◌, ◌-◌, ap, arith}
use Rattle.segment_fills.proofs.WrittenFronts.{item_more}
use Rattle.segment_fills.proofs.fronts.OneByOneFronts.write.Goals as goal

pub loop-place-preserved : goal.loop-place-preserved
loop-place-preserved g c =
    let at = g.S.Items.at c.args.items.now in let now = c.loop-place in let k = now.place - c.args.first in
    let one_on : k + 1 ≡ now.place + 1 - c.args.first = omega (arith, now.auto.place) in
    record {
      next = c.after-item.ensures k now.invariant.next ∙ ap at one_on;
      front = item_more at c.args.out.now c.args.first now.out now.place now.item now.auto.place
          (omega (arith, c.requires.within, c.loop-place-test.true, now.auto.out)) now.invariant.next now.invariant.front;
    }
