use Rattle.permute_walks.proofs.Cited.{rules, ◌∙◌, ◌<◌, ◌≤◌, ap, false, length, replicate, arith, refl, index_is, slice_get_read, nobody}
use Rattle.permute_walks.proofs.Scattered.{marks_more, marks_none, room_more, room_none}
use Rattle.permute_scatters.proofs.one_walk.send_and_mark.Goals as goal

pub loop-k-init : goal.loop-k-init
loop-k-init g c =
    let index = c.args.index.now in
    let m = length c.args.out.now in
    let few : length index ≤ nobody = omega (arith, c.requires.in_limit.0) in
    record {
      written = room_none index m few c.args.source.now c.args.out.now c.requires.sourced refl;
      marked = c.requires.unmarked ∙ ap (λ n. replicate n false) c.requires.as_long ∙ marks_none index m few;
    }

pub loop-k-preserved : goal.loop-k-preserved
loop-k-preserved g c =
    let source = c.args.source.now in
    let index = c.args.index.now in
    let m = length c.args.out.now in
    let few : length index ≤ nobody = omega (arith, c.requires.in_limit.0) in
    let k = c.loop-k.k in
    let d = c.cast_unsigned-named.result in
    let below : d < m = omega (arith, c.if-named-places.false) in
    let names = index_is _ d (search rules) c.cast_unsigned-named.ensures (omega (arith, below, c.requires.in_limit.1)) in
    let sent = slice_get_read source (length index) k c.index-source-k.result (omega (arith, c.requires.sourced)) c.loop-k-test.true c.index-source-k.is in
    record {
      written = room_more index m few k c.loop-k-test.true d names below source c.args.out.now c.loop-k.out c.index-source-k.result sent c.loop-k.invariant.written;
      marked = marks_more index m few k c.loop-k-test.true d names below c.loop-k.marks c.loop-k.invariant.marked;
    }
