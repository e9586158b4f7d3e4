use Rattle.permute_walks.proofs.Cited.{◌≡◌, ◌+◌, ◌∷◌, [], Bool, true, false, ap, length, length-append, arith, places_between}
use Rattle.permute_walks.proofs.Listed.{asked_more}
use Rattle.permute_walks.proofs.ranges.count_block.Goals as goal
use Rattle.permute_walks.proofs.ranges.count_block.Goals.{then-is_sent_between, else-is_sent_between}

pub loop-k-preserved : goal.loop-k-preserved
loop-k-preserved g c =
    let ds = g.D.Destinations.destinations c.args.destinations.now in
    let l = c.loop-k in
    let end = c.args.lowest + c.args.places in
    let before = places_between ds c.args.lowest end c.args.first l.k in
    let more = λ (b : Bool) (is : c.is_sent_between.result ≡ b). asked_more ds c.args.lowest end c.args.first l.k b c.at-takes_part.ensures c.is_sent_between.ensures is in
    elim c.if-is_sent_between.branch [
      | then-is_sent_between w ↦ record {
        count_is = omega (arith, ap length (more true w.if-is_sent_between.true), length-append before ((c.args.first + l.k) ∷ []), l.invariant.count_is, w.count-is);
        in_length = omega arith;
      }
      | else-is_sent_between w ↦ record {
        count_is = omega (arith, ap length (more false w.if-is_sent_between.false), length-append before [], l.invariant.count_is, w.count-is);
        in_length = omega arith;
      }
    ]
