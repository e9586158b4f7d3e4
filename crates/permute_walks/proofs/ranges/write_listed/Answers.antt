use Rattle.permute_walks.proofs.Cited.{◌+◌, get_or, length, arith}
use Rattle.permute_walks.proofs.Written.{leaves_end, leaves_more, leaves_next}
use Rattle.permute_walks.proofs.ranges.write_listed.Goals as goal

pub sent_from-destination-requires-clause-inside : goal.sent_from-destination-requires-clause-inside
sent_from-destination-requires-clause-inside g c =
    let l = c.loop-place in
    let next = leaves_next c.args.source.now (g.D.Destinations.destinations c.args.destinations.now) c.args.lowest (length c.args.out.now) c.args.first c.args.out.now c.args.marks.now
    (c.args.first + length c.args.list.now) c.requires.block l.out l.marks c.split_at.result.0.now l.place-index l.invariant c.loop-place-test.true in
    omega (arith, next.ends, c.requires.block)

pub sent_from-destination-requires-clause-sent : goal.sent_from-destination-requires-clause-sent
sent_from-destination-requires-clause-sent g c =
    let l = c.loop-place in
    let next = leaves_next c.args.source.now (g.D.Destinations.destinations c.args.destinations.now) c.args.lowest (length c.args.out.now) c.args.first c.args.out.now c.args.marks.now
    (c.args.first + length c.args.list.now) c.requires.block l.out l.marks c.split_at.result.0.now l.place-index l.invariant c.loop-place-test.true in
    next.passes

pub loop-place-preserved : goal.loop-place-preserved
loop-place-preserved g c =
    let ds = g.D.Destinations.destinations c.args.destinations.now in
    let n = length c.args.out.now in
    let l = c.loop-place in
    let next = leaves_next c.args.source.now ds c.args.lowest n c.args.first c.args.out.now c.args.marks.now
    (c.args.first + length c.args.list.now) c.requires.block l.out l.marks c.split_at.result.0.now l.place-index l.invariant c.loop-place-test.true in
    let told = c.sent_from-destination in
    let k = get_or c.split_at.result.0.now l.place-index 0 in
    record {
      from = k + 1;
      many = next.many;
      ends = next.ends;
      listed = next.listed;
      holds = leaves_more c.args.source.now ds c.args.lowest n c.args.first c.args.out.now c.args.marks.now k l.out l.marks (omega (arith, next.ends, c.requires.block)) next.holds c.requires.in_limit
          told.result.0 told.result.1 told.ensures.place (omega (arith, told.ensures.inside)) told.ensures.element _ c.mark.ensures;
    }

pub returns : goal.returns
returns g c = record {
  written = leaves_end c.args.source.now (g.D.Destinations.destinations c.args.destinations.now) c.args.lowest (length c.args.out.now) c.args.first c.args.out.now c.args.marks.now
      (c.args.first + length c.args.list.now) c.requires.block c.loop-place.out c.loop-place.marks c.split_at.result.0.now c.loop-place.place-index c.loop-place.invariant c.loop-place-test.false;
}
