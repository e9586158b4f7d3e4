use Rattle.std.proofs.Common.{rules, ◌≡◌, ◌+◌, ◌-◌, ◌≤◌, ◌∙◌, ◌++◌, ℕ, List, ap, arith, drop, length, refl, replicate, subst, sym, take}
use Rattle.std.proofs.lemmas.List.{drop-replicate, length-replicate, replicate-append-replicate, take-replicate}
use Rattle.cvl_base.specs.Limits.{most_places}
use Rattle.fresh.specs.Places.{Stretch, with_items}
use Rattle.fresh.specs.Parts.{part}
use Rattle.permute_walks.specs.Senders.{nobody}
use Rattle.segment_sends.proofs.Shared.{walked_all, walked_bad, walked_before, walked_limit, walked_more, walked_none, walked_rest_within, walked_room, walked_within}
use Rattle.segment_sends.proofs.one_walk.write_segments.Goals as goal

-- the senders of a segment are cleared, so that all are nobody again
module _ (senders : List ℕ) (n : ℕ) (fresh : senders ≡ replicate (length senders) nobody) (within : n ≤ length senders) where
  as_long : (m : ℕ) (ss : List ℕ) → ss ≡ replicate m nobody → ss ≡ replicate (length ss) nobody
  as_long m ss is = is ∙ ap (λ k. replicate k nobody) (sym (ap length is ∙ length-replicate m nobody))

  front_fresh : (front : List ℕ) → front ≡ take n senders → front ≡ replicate (length front) nobody
  front_fresh front is = as_long n front (is ∙ ap (take n) fresh ∙ take-replicate n (length senders) nobody within)

  fresh_again : (front new back : List ℕ) → length front ≡ n → new ≡ replicate (length front) nobody → back ≡ drop n senders → new ++ back ≡ replicate (length (new ++ back)) nobody
  fresh_again front new back long cleared rest =
      let others = length senders - n in
      as_long (n + others) (new ++ back)
      ((λ i. (cleared ∙ ap (λ k. replicate k nobody) long) i ++ (rest ∙ ap (drop n) fresh ∙ drop-replicate n (length senders) nobody) i) ∙ replicate-append-replicate n others nobody)

pub loop-s-init : goal.loop-s-init
loop-s-init g c = record { walked = walked_none c.requires.share c.destinations_before-first.result c.destinations_before-first.ensures; fresh = c.requires.fresh }

pub of_segment-places-requires-clause-within : goal.of_segment-places-requires-clause-within
of_segment-places-requires-clause-within g c = omega (arith, c.loop-s-test.true, c.requires.share.in_segments)

pub split_at_mut-buffer-requires : goal.split_at_mut-buffer-requires
split_at_mut-buffer-requires g c =
    let share = c.requires.share in
    omega (arith, c.loop-s.auto.senders, walked_within share c.loop-s.auto.s (c.loop-s.auto.s-end share.in_order) c.loop-s.invariant.walked c.loop-s-test.true c.of_segment-places.ensures refl)

pub push_segment-next-requires-clause-fresh : goal.push_segment-next-requires-clause-fresh
push_segment-next-requires-clause-fresh g c =
    let share = c.requires.share in
    front_fresh c.loop-s.senders c.of_segment-places.result.0 c.loop-s.invariant.fresh
    (omega (arith, c.loop-s.auto.senders, walked_within share c.loop-s.auto.s (c.loop-s.auto.s-end share.in_order) c.loop-s.invariant.walked c.loop-s-test.true c.of_segment-places.ensures refl))
    c.split_at_mut-buffer.result.0.now c.split_at_mut-buffer.ensures.front

pub push_segment-next-requires-clause-room : goal.push_segment-next-requires-clause-room
push_segment-next-requires-clause-room g c =
    let share = c.requires.share in
    walked_room share c.loop-s.auto.s (c.loop-s.auto.s-end share.in_order) c.loop-s.invariant.walked c.loop-s-test.true c.of_segment-places.ensures c.split_at_mut-buffer.ensures.front_len

pub push_segment-next-requires-clause-within : goal.push_segment-next-requires-clause-within
push_segment-next-requires-clause-within g c =
    let share = c.requires.share in
    walked_before share c.loop-s.auto.s (c.loop-s.auto.s-end share.in_order) c.loop-s.invariant.walked c.loop-s-test.true c.of_segment-places.ensures c.split_at_mut-buffer.ensures.front_len

pub push_segment-next-requires-clause-in_limit : goal.push_segment-next-requires-clause-in_limit
push_segment-next-requires-clause-in_limit g c =
    let share = c.requires.share in
    walked_limit share c.loop-s.auto.s (c.loop-s.auto.s-end share.in_order) c.loop-s.invariant.walked c.loop-s-test.true c.of_segment-places.ensures c.split_at_mut-buffer.ensures.front_len

pub push_rest-requires : goal.push_rest-requires
push_rest-requires g c =
    let share = c.requires.share in
    subst (λ (r : Stretch _). r.first + length r.items + r.room ≤ length c.args.before.now) (sym (c.push_segment-next.ensures.bad c.if-not-right.true))
    (walked_rest_within share c.loop-s.auto.s (c.loop-s.auto.s-end share.in_order) c.loop-s.invariant.walked)

pub returns-then-not-right : goal.returns-then-not-right
returns-then-not-right g c =
    let share = c.requires.share in
    walked_bad share c.loop-s.auto.s (c.loop-s.auto.s-end share.in_order) c.loop-s.invariant.walked c.push_rest.result
    (c.push_rest.ensures ∙ ap (λ (r : Stretch _). with_items r (part c.args.before.now (r.first + length r.items) r.room)) (c.push_segment-next.ensures.bad c.if-not-right.true))

pub overflow_add-first : goal.overflow_add-first
overflow_add-first g c =
    let share = c.requires.share in
    let limit = walked_limit share c.loop-s.auto.s (c.loop-s.auto.s-end share.in_order) c.loop-s.invariant.walked c.loop-s-test.true
    c.of_segment-places.ensures c.split_at_mut-buffer.ensures.front_len in
    let within : c.loop-s.first + c.count-first.result ≤ most_places = omega (arith, c.count-first.ensures, limit) in
    search rules

pub loop-s-preserved : goal.loop-s-preserved
loop-s-preserved g c =
    let share = c.requires.share in
    let walked = walked_more share c.loop-s.auto.s (c.loop-s.auto.s-end share.in_order) c.loop-s.invariant.walked c.loop-s-test.true c.of_segment-places.ensures c.split_at_mut-buffer.ensures.front_len
    c.push_segment-next.result.0
    (c.push_segment-next.ensures.right c.if-not-right.false) (c.push_segment-next.ensures.pushed c.if-not-right.false) (c.loop-s.first + c.count-first.result)
    (ap (λ k. c.loop-s.first + k) c.count-first.ensures) in
    record {
      walked = walked;
      fresh = fresh_again c.loop-s.senders c.of_segment-places.result.0 c.loop-s.invariant.fresh
          (omega (arith, c.loop-s.auto.senders, walked_within share c.loop-s.auto.s (c.loop-s.auto.s-end share.in_order) c.loop-s.invariant.walked c.loop-s-test.true c.of_segment-places.ensures refl))
          c.split_at_mut-buffer.result.0.now c.push_segment-next.new.senders c.split_at_mut-buffer.result.1.now c.split_at_mut-buffer.ensures.front_len
          (c.push_segment-next.ensures.cleared c.if-not-right.false) c.split_at_mut-buffer.ensures.back;
    }

pub returns : goal.returns
returns g c = walked_all c.requires.share c.loop-s.invariant.walked c.loop-s-test.false (c.loop-s.auto.s-end c.requires.share.in_order)
