use Rattle.std.proofs.Common.{rules, ◌∙◌, ◌<◌, ◌≤◌, length, get_or, pos, w32, FitsSigned, arith, refl}
use Rattle.std.proofs.lemmas.Option.{slice_get_read}
use Rattle.permute_walks.specs.Senders.{nobody}
use Rattle.permute_walks.proofs.Scattered.{named_below, right_inside, room_all, room_more, room_none}
use Rattle.permute_walks.proofs.Stored.{index_is}
use Rattle.segment_sends.proofs.one_segment.scatter_short_over.Goals as goal

pub loop-k-init : goal.loop-k-init
loop-k-init g c =
    let few : length c.args.index.now ≤ nobody = omega (arith, c.requires.in_limit) in
    room_none c.args.index.now (length c.args.index.now) few c.args.source.now c.args.out.now c.requires.as_long.0 c.requires.as_long.1

pub returns-then-named-places : goal.returns-then-named-places
returns-then-named-places g c =
    let index = c.args.index.now in
    let few : length index ≤ nobody = omega (arith, c.requires.in_limit) in
    let i = get_or index c.loop-k.k (pos 0) in
    let fits : FitsSigned w32 i = search rules in
    let below = named_below (length index) i c.cast_unsigned-named.result fits c.cast_unsigned-named.ensures
    (right_inside index (length index) few c.loop-k.k c.loop-k-test.true c.requires.apart) in
    absurd (omega (arith, below, c.if-named-places.true, c.requires.as_long.1))

pub loop-k-preserved : goal.loop-k-preserved
loop-k-preserved g c =
    let source = c.args.source.now in
    let index = c.args.index.now in
    let n = length index in
    let few : n ≤ nobody = omega (arith, c.requires.in_limit) in
    let k = c.loop-k.k in
    let i = get_or index k (pos 0) in
    let fits : FitsSigned w32 i = search rules in
    let d = c.cast_unsigned-named.result in
    let below : d < n = omega (arith, c.if-named-places.false, c.requires.as_long.1) in
    let names = index_is i d fits c.cast_unsigned-named.ensures (omega (arith, below, c.requires.in_limit)) in
    let x = c.index-source-k.result in
    room_more index n few k c.loop-k-test.true d names below source c.args.out.now c.loop-k.out x
    (slice_get_read source n k x (omega (arith, c.requires.as_long.0)) c.loop-k-test.true c.index-source-k.is) c.loop-k.invariant

pub returns : goal.returns
returns g c =
    let index = c.args.index.now in
    let n = length index in
    let few : n ≤ nobody = omega (arith, c.requires.in_limit) in
    c.loop-k.invariant
    ∙ room_all index n few c.args.source.now c.args.out.now c.requires.as_long.0 c.requires.as_long.1 refl c.loop-k.k (omega (arith, c.loop-k-test.false)) c.requires.apart
