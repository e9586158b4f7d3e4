use Rattle.std.proofs.Common.{rules, ◌≡◌, ◌∙◌, ◌+◌, ◌<◌, ◌∷◌, [], ◌++◌, length, replicate, take, get_or, refl, sym, ap, arith, slice_get, unwrap_or}
use Rattle.std.proofs.lemmas.Grind.{drop_more_same}
use Rattle.std.proofs.lemmas.List.{drop-set-lt, get_or-drop, replicate_more, take_all, take_more_set}
use Rattle.fresh.specs.Places.{with_items}
use Rattle.fresh.proofs.Written.{nothing_written, one_written}
use Rattle.permute_walks.specs.Senders.{nobody, written_over}
use Rattle.segment_sends.proofs.Pushed.{all_pushed, room_for_next, written_more}
use Rattle.segment_sends.proofs.one_walk.push_and_clear.Goals as goal

pub loop-k-init : goal.loop-k-init
loop-k-init g c = record { pushed = sym (nothing_written c.args.run); cleared = refl; left = refl }

pub push-requires : goal.push-requires
push-requires g c =
    room_for_next c.args.source.now c.args.senders.now c.args.values.now c.requires.as_long c.loop-k.k c.args.run c.loop-k.invariant.pushed c.requires.room (omega (arith, c.loop-k-test.true))

pub loop-k-preserved : goal.loop-k-preserved
loop-k-preserved g c =
    let source = c.args.source.now in
    let senders = c.args.senders.now in
    let now = c.loop-k.senders in
    let values = c.args.values.now in
    let k = c.loop-k.k in
    let x = c.index-values-k.result in
    let y = c.unwrap_or.result in
    let before = written_over source (take k senders) (take k values) in
    let in_values : k < length values = omega (arith, c.loop-k-test.true, c.requires.as_long) in
    let in_senders : k < length now = omega (arith, c.loop-k-test.true, c.loop-k.auto.senders) in
    let there : k + 0 ≡ k = omega arith in
    let read : get_or now k 0 ≡ get_or senders k 0 =
    sym (get_or-drop k now 0 0 ∙ ap (λ j. get_or now j 0) there) ∙ ap (λ xs. get_or xs 0 0) c.loop-k.invariant.left ∙ get_or-drop k senders 0 0 ∙ ap (λ j. get_or senders j 0) there in
    let here : y ≡ unwrap_or (slice_get source (get_or now k 0)) x = search rules in
    let is = here ∙ ap (λ s. unwrap_or (slice_get source s) x) read in
    record {
      pushed = one_written c.args.run c.loop-k.run c.push.new.self before y c.loop-k.invariant.pushed c.push.ensures
          ∙ ap (with_items c.args.run) (written_more source senders values k x y c.loop-k-test.true in_values c.index-values-k.is is);
      cleared = take_more_set now k nobody in_senders ∙ ap (λ ss. ss ++ nobody ∷ []) c.loop-k.invariant.cleared ∙ replicate_more k nobody;
      left = drop-set-lt (k + 1) now k nobody (omega arith) ∙ drop_more_same now senders k c.loop-k.invariant.left;
    }

pub returns-clause-pushed : goal.returns-clause-pushed
returns-clause-pushed g c =
    all_pushed c.args.source.now c.args.senders.now c.args.values.now c.requires.as_long c.loop-k.k c.args.run c.loop-k.invariant.pushed (omega (arith, c.loop-k-test.false))

pub returns-clause-cleared : goal.returns-clause-cleared
returns-clause-cleared g c =
    let k = c.loop-k.k in
    let all : k ≡ length c.args.senders.now = omega (arith, c.loop-k-test.false, c.loop-k.auto.k-end) in
    sym (take_all k c.loop-k.senders (omega (arith, all, c.loop-k.auto.senders))) ∙ c.loop-k.invariant.cleared ∙ ap (λ n. replicate n nobody) all
