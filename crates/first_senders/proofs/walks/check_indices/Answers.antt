use Rattle.first_senders.proofs.Cited.{◌∙◌, ◌<◌, Some, ap, arith, drop, length, sym, take, destination_if}
use Rattle.first_senders.proofs.Faults.{fails_outside, part_at, part_long, past_inside, past_skip}
use Rattle.first_senders.proofs.walks.check_indices.Goals as goal
use Rattle.first_senders.proofs.walks.check_indices.Goals.{then-takes_part+in-Some, else-takes_part}

pub returns-in_default : goal.returns-in_default
returns-in_default g c =
    let all = g.D.Destinations.destinations c.args.destinations.now in
    let ts = take c.args.count (drop c.args.first all) in
    let here = part_at all c.args.first c.args.count c.requires.within c.loop-k.k (omega (arith, c.loop-k-test.true)) in
    let i = c.at-takes_part.result.0.now in
    let lt : c.loop-k.k < length ts = omega (arith, part_long all c.args.first c.args.count c.requires.within, c.loop-k-test.true) in
    ap (λ f. Some f) c.at.ensures
    ∙ fails_outside c.args.places c.args.first c.loop-k.k ts lt c.loop-k.invariant i
    (here ∙ c.at-takes_part.ensures ∙ ap (destination_if i) c.if-takes_part.true) (sym c.in_default.is ∙ c.place_among.ensures.value)

pub loop-k-preserved : goal.loop-k-preserved
loop-k-preserved g c =
    let all = g.D.Destinations.destinations c.args.destinations.now in
    let ts = take c.args.count (drop c.args.first all) in
    let here = part_at all c.args.first c.args.count c.requires.within c.loop-k.k (omega (arith, c.loop-k-test.true)) in
    let i = c.at-takes_part.result.0.now in
    let lt : c.loop-k.k < length ts = omega (arith, part_long all c.args.first c.args.count c.requires.within, c.loop-k-test.true) in
    elim c.if-takes_part.branch [
      | then-takes_part+in-Some w ↦
          past_inside c.args.places c.args.first c.loop-k.k ts lt c.loop-k.invariant i w.in-Some.field-0
          (here ∙ c.at-takes_part.ensures ∙ ap (destination_if i) w.if-takes_part.true) (sym w.in-Some.is ∙ w.place_among.ensures.value)
      | else-takes_part w ↦
          past_skip c.args.places c.args.first c.loop-k.k ts lt c.loop-k.invariant
          (here ∙ c.at-takes_part.ensures ∙ ap (destination_if i) w.if-takes_part.false)
    ]
