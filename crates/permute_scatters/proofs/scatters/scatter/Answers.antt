use Rattle.permute_walks.proofs.Cited.{rules, ◌<◌, ◌≤◌, length, get_or, pos, nat_abs, to_z, of_z, w32, arith, refl, slice_get_read, nobody}
use Rattle.permute_walks.proofs.Outside.{read_index}
use Rattle.permute_walks.proofs.Scattered.{right_inside, room_more, room_none}
use Rattle.permute_scatters.proofs.Walked.{room_all}
use Rattle.permute_scatters.proofs.scatters.scatter.Goals as goal

pub loop-k-init : goal.loop-k-init
loop-k-init g c = room_none c.args.index.now (length c.args.out.now) (omega (arith, c.requires.in_limit)) c.args.source.now c.args.out.now c.requires.as_long refl

pub overflow_cast-i : goal.overflow_cast-i
overflow_cast-i g c =
    let m = length c.args.out.now in
    (read_index m _ (search rules) (right_inside c.args.index.now m (omega (arith, c.requires.in_limit)) c.loop-k.k c.loop-k-test.true c.requires.apart)).0

pub offset_bounds-out-i : goal.offset_bounds-out-i
offset_bounds-out-i g c =
    let m = length c.args.out.now in
    let i = get_or c.args.index.now c.loop-k.k (pos 0) in
    let read = (read_index m i (search rules) (right_inside c.args.index.now m (omega (arith, c.requires.in_limit)) c.loop-k.k c.loop-k-test.true c.requires.apart)).1 in
    let within : nat_abs (to_z w32 (of_z w32 i)) < length c.loop-k.out = omega (arith, read.0, c.loop-k.auto.out) in
    search rules

pub bounds-out-i : goal.bounds-out-i
bounds-out-i g c =
    let m = length c.args.out.now in
    let read = (read_index m _ (search rules) (right_inside c.args.index.now m (omega (arith, c.requires.in_limit)) c.loop-k.k c.loop-k-test.true c.requires.apart)).1 in
    omega (arith, read.0, c.loop-k.auto.out)

pub loop-k-preserved : goal.loop-k-preserved
loop-k-preserved g c =
    let source = c.args.source.now in
    let index = c.args.index.now in
    let m = length c.args.out.now in
    let few : length index ≤ nobody = omega (arith, c.requires.in_limit) in
    let k = c.loop-k.k in
    let read = (read_index m _ (search rules) (right_inside index m few k c.loop-k-test.true c.requires.apart)).1 in
    let sent = slice_get_read source (length index) k c.index-source-k.result (omega (arith, c.requires.as_long)) c.loop-k-test.true c.index-source-k.is in
    room_more index m few k c.loop-k-test.true _ read.1 read.0 source c.args.out.now c.loop-k.out c.index-source-k.result sent c.loop-k.invariant

pub returns : goal.returns
returns g c =
    room_all c.args.source.now c.args.out.now c.loop-k.out c.args.index.now (length c.args.out.now) c.loop-k.k (omega (arith, c.requires.in_limit))
    (omega (arith, c.loop-k-test.false)) c.requires.apart c.loop-k.invariant
