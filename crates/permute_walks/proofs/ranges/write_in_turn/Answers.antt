use Rattle.permute_walks.proofs.Cited.{◌≡◌, ◌+◌, ◌<◌, length, set, arith}
use Rattle.permute_walks.proofs.Written.{leaves_at, leaves_more, leaves_other}
use Rattle.permute_walks.proofs.ranges.write_in_turn.Goals as goal
use Rattle.permute_walks.proofs.ranges.write_in_turn.Goals.{then-is_sent_between, else-is_sent_between}

pub loop-k-preserved : goal.loop-k-preserved
loop-k-preserved g c =
    let source = c.args.source.now in
    let ds = g.D.Destinations.destinations c.args.destinations.now in
    let lowest = c.args.lowest in
    let n = length c.args.out.now in
    let l = c.loop-k in
    let k = c.args.first + l.k in
    let within : k < length ds = omega (arith, c.requires.block, c.loop-k-test.true) in
    let next : k + 1 ≡ c.args.first + (l.k + 1) = omega arith in
    let kept = set l.marks l.held.0 l.held.1 in
    elim c.if-is_sent_between.branch [
      | then-is_sent_between w ↦
          let told = w.sent_from-destination in
          let more = leaves_more source ds lowest n c.args.first c.args.out.now c.args.marks.now k l.out kept within l.invariant.holds c.requires.in_limit
          told.result.0 told.result.1 told.ensures.place (omega (arith, told.ensures.inside)) told.ensures.element _ w.mark_held-held.ensures in
          record {
            holds = leaves_at source ds lowest n c.args.first c.args.out.now c.args.marks.now (k + 1) _ _ _ _ _ next w.out-is (λ i. set (w.marks-is i) (w.held-is i).0 (w.held-is i).1) more;
            in_length = omega arith;
          }
      | else-is_sent_between w ↦
          let other = leaves_other source ds lowest n c.args.first c.args.out.now c.args.marks.now k l.out kept within l.invariant.holds
          (cc (c.at-takes_part.ensures, c.is_sent_between.ensures, w.if-is_sent_between.false)) in
          record {
            holds = leaves_at source ds lowest n c.args.first c.args.out.now c.args.marks.now (k + 1) _ _ _ _ _ next w.out-is (λ i. set (w.marks-is i) (w.held-is i).0 (w.held-is i).1) other;
            in_length = omega arith;
          }
    ]
