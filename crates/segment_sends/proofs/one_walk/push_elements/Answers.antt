use Rattle.std.proofs.Common.{rules, ◌≡◌, ◌∙◌, ◌<◌, length, take, get_or, sym, ap, arith, slice_get, unwrap_or}
use Rattle.fresh.specs.Places.{with_items}
use Rattle.fresh.proofs.Written.{nothing_written, one_written}
use Rattle.permute_walks.specs.Senders.{written_over}
use Rattle.segment_sends.proofs.Pushed.{all_pushed, room_for_next, written_more}
use Rattle.segment_sends.proofs.one_walk.push_elements.Goals as goal

pub loop-k-init : goal.loop-k-init
loop-k-init g c = sym (nothing_written c.args.run)

pub push-requires : goal.push-requires
push-requires g c =
    room_for_next c.args.source.now c.args.senders.now c.args.values.now c.requires.as_long c.loop-k.k c.args.run c.loop-k.invariant c.requires.room (omega (arith, c.loop-k-test.true))

pub loop-k-preserved : goal.loop-k-preserved
loop-k-preserved g c =
    let source = c.args.source.now in
    let senders = c.args.senders.now in
    let values = c.args.values.now in
    let k = c.loop-k.k in
    let x = c.index-values-k.result in
    let y = c.unwrap_or.result in
    let before = written_over source (take k senders) (take k values) in
    let in_values : k < length values = omega (arith, c.loop-k-test.true, c.requires.as_long) in
    let is : y ≡ unwrap_or (slice_get source (get_or senders k 0)) x = search rules in
    one_written c.args.run c.loop-k.run c.push.new.self before y c.loop-k.invariant c.push.ensures
    ∙ ap (with_items c.args.run) (written_more source senders values k x y c.loop-k-test.true in_values c.index-values-k.is is)

pub returns : goal.returns
returns g c =
    all_pushed c.args.source.now c.args.senders.now c.args.values.now c.requires.as_long c.loop-k.k c.args.run c.loop-k.invariant (omega (arith, c.loop-k-test.false))
