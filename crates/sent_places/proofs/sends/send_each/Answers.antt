use Rattle.std.proofs.Common.{ℕ, List, ◌≤◌, ◌<◌, ◌+◌, ◌∙◌, ap, sym, subst, length, arith}
use Rattle.cvl_base.specs.Permutes.{destination_if}
use Rattle.sent_places.specs.Senders.{nobody}
use Rattle.sent_places.proofs.Sent.{IsSentTo, sent_none, sent_more, skip_more, sent_fails, sent_all, right_told, told_again}
use Rattle.sent_places.proofs.sends.send_each.Goals as goal
use Rattle.sent_places.proofs.sends.send_each.Goals.{then-takes_part+in_ok-send_one, else-takes_part}

pub loop-k-init : goal.loop-k-init
loop-k-init g c = sent_none c.args.first (g.T.Destinations.destinations c.args.destinations.now) _ c.args.senders.now c.requires.fresh

pub returns-in_err-send_one-clause-fault : goal.returns-in_err-send_one-clause-fault
returns-in_err-send_one-clause-fault g c =
    let ts = g.T.Destinations.destinations c.args.destinations.now in
    let small : c.args.first + length ts ≤ nobody = omega (arith, c.requires.in_limit) in
    let is = c.at-takes_part.ensures ∙ ap (destination_if c.at-takes_part.result.0.now) c.if-takes_part.true in
    told_again c.from_residual.result c.in_err-send_one.field-0.0 c.from_residual.ensures.1
    ∙ sent_fails c.args.first ts (length c.args.senders.now) c.loop-k.k c.loop-k.senders small c.loop-k.invariant
    (omega (arith, c.count-k-end.ensures, c.loop-k-test.true))
    c.in_err-send_one.field-0.0 c.at-takes_part.result.0.now is c.in_err-send_one.ensures.fault

pub loop-k-preserved : goal.loop-k-preserved
loop-k-preserved g c =
    let ts = g.T.Destinations.destinations c.args.destinations.now in
    let m = length c.args.senders.now in
    let k = c.loop-k.k in
    let small : c.args.first + length ts ≤ nobody = omega (arith, c.requires.in_limit) in
    let within : k < length ts = omega (arith, c.count-k-end.ensures, c.loop-k-test.true) in
    elim c.if-takes_part.branch [
      | then-takes_part+in_ok-send_one w ↦
          sent_more c.args.first ts m k c.loop-k.senders small c.loop-k.invariant within
          c.if-takes_part.senders c.at-takes_part.result.0.now (c.at-takes_part.ensures ∙ ap (destination_if c.at-takes_part.result.0.now) w.if-takes_part.true)
          (right_told _ (c.args.first + k) w.in_ok-send_one.ensures.fault) (w.senders-is ∙ w.in_ok-send_one.ensures.sent)
      | else-takes_part w ↦
          subst (λ (ss : List ℕ). IsSentTo c.args.first ts m (k + 1) ss) (sym w.senders-is)
          (skip_more c.args.first ts m k c.loop-k.senders small c.loop-k.invariant within
          (c.at-takes_part.ensures ∙ ap (destination_if c.at-takes_part.result.0.now) w.if-takes_part.false))
    ]

pub returns : goal.returns
returns g c =
    let all = sent_all c.args.first (g.T.Destinations.destinations c.args.destinations.now) _ c.loop-k.k _ c.loop-k.invariant (omega (arith, c.count-k-end.ensures, c.loop-k-test.false)) in
    record { fault = all.0; sent = all.1 }
