use Rattle.std.proofs.Common.{◌≤◌, ◌+◌, ◌<◌, ℕ, List, get_or, set, length, w32, FitsSigned, Some, ◌∙◌, ap, sym, arith, rules}
use Rattle.std.proofs.lemmas.List.{get_or-replicate, get_or-set_same, set-get_or}
use Rattle.cvl_base.specs.Permutes.{destination_if}
use Rattle.sent_places.specs.Senders.{nobody}
use Rattle.sent_places.proofs.Stored.{index_is, stored_none, stored_more, stored_skip, stored_all}
use Rattle.sent_places.proofs.stores.store_each.Goals as goal
use Rattle.sent_places.proofs.stores.store_each.Goals.{then-takes_part, else-takes_part}

pub loop-k-init : goal.loop-k-init
loop-k-init g c = record {
  so_far = stored_none c.args.first (g.T.Destinations.destinations c.args.destinations.now) _ c.args.senders.now c.requires.fresh;
  stands = λ some. ap (λ (ss : List ℕ). get_or ss 0 0) c.requires.fresh ∙ get_or-replicate (length c.args.senders.now) 0 nobody 0 some;
  in_length = omega arith;
}

pub loop-k-preserved : goal.loop-k-preserved
loop-k-preserved g c =
    let ts = g.T.Destinations.destinations c.args.destinations.now in
    let m = length c.args.senders.now in
    let k = c.loop-k.k in
    let small : c.args.first + length ts ≤ nobody = omega (arith, c.requires.in_limit) in
    let in_destinations : k < length ts = omega (arith, c.count-k-end.ensures, c.loop-k-test.true) in
    let i = c.at-takes_part.result.0.now in
    let before = c.loop-k.invariant in
    let d = c.if-takes_part.destination in
    let inside : d < length c.loop-k.senders = omega arith in
    record {
      so_far = elim c.if-takes_part.branch [
        | then-takes_part w ↦
            let fits : FitsSigned w32 i = search rules in
            let is = index_is i d fits (w.destination-is ∙ c.cast_unsigned-named.ensures) (omega (arith, before.so_far.as_long)) in
            stored_more c.args.first ts m k c.loop-k.sent c.loop-k.senders small before.so_far in_destinations
            _ c.if-takes_part.sent d (c.at-takes_part.ensures ∙ ap (destination_if i) w.if-takes_part.true ∙ ap (λ j. Some j) is)
            (omega (arith, before.so_far.as_long)) w.sent-is (ap (set c.loop-k.senders d) w.sender-is)
        | else-takes_part w ↦
            stored_skip c.args.first ts m k c.loop-k.sent c.loop-k.senders small before.so_far in_destinations
            _ c.if-takes_part.sent (c.at-takes_part.ensures ∙ ap (destination_if i) w.if-takes_part.false) w.sent-is
            (ap (set c.loop-k.senders d) (w.sender-is ∙ sym (before.stands (omega arith)) ∙ ap (λ e. get_or c.loop-k.senders e 0) (sym w.destination-is))
            ∙ set-get_or c.loop-k.senders d 0)
      ];
      stands = λ some. get_or-set_same c.loop-k.senders d c.if-takes_part.sender 0 inside;
      in_length = elim c.if-takes_part.branch [ then-takes_part w ↦ omega arith | else-takes_part w ↦ omega arith ];
    }

pub returns-clause-stored : goal.returns-clause-stored
returns-clause-stored g c =
    stored_all c.args.first (g.T.Destinations.destinations c.args.destinations.now) _ c.loop-k.k c.loop-k.sent c.loop-k.senders c.loop-k.invariant.so_far
    (omega (arith, c.count-k-end.ensures, c.loop-k-test.false))
