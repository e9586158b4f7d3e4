use Rattle.permute_walks.proofs.Cited.{◌≡◌, ◌+◌, ◌<◌, ◌∙◌, ◌++◌, ◌∷◌, [], Bool, true, false, ap, length, set, take, sym, arith, append-nil, take-set, take_more_set}
use Rattle.permute_walks.proofs.Listed.{asked_more}
use Rattle.permute_walks.proofs.ranges.list_block.Goals as goal
use Rattle.permute_walks.proofs.ranges.list_block.Goals.{then-is_sent_between, else-is_sent_between}

pub loop-k-preserved : goal.loop-k-preserved
loop-k-preserved g c =
    let l = c.loop-k in
    let k = c.args.first + l.k in
    let more = λ (b : Bool) (is : c.is_sent_between.result ≡ b). asked_more (g.D.Destinations.destinations c.args.destinations.now) c.args.lowest (c.args.lowest + c.args.places) c.args.first l.k b
    c.at-takes_part.ensures c.is_sent_between.ensures is in
    let within : l.count < length l.list = omega arith in
    elim c.if-is_sent_between.branch [
      | then-is_sent_between w ↦ record {
        listed = ap (λ n. take n (set l.list l.count k)) w.count-is ∙ take_more_set l.list l.count k within ∙ ap (λ ns. ns ++ k ∷ []) l.invariant.listed
            ∙ sym (more true w.if-is_sent_between.true);
        in_length = omega arith;
      }
      | else-is_sent_between w ↦ record {
        listed = ap (λ n. take n (set l.list l.count k)) w.count-is ∙ take-set l.list l.count k ∙ l.invariant.listed ∙ sym (append-nil _)
            ∙ sym (more false w.if-is_sent_between.false);
        in_length = omega arith;
      }
    ]
