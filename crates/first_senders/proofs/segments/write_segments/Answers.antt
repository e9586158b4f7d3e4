use Rattle.first_senders.proofs.Cited.{◌≡◌, ◌∙◌, ◌+◌, ◌-◌, ◌<◌, ◌≤◌, ap, arith, drop, length, length-drop, refl, rules, sum, take, length-take-le, take_all, put_mid, sum_by_more}
use Rattle.first_senders.specs.FirstSenders.{first_senders}
use Rattle.segdes.proofs.Sums.{segment_within}
use Rattle.first_senders.proofs.BySegments.{places_within, room_all, room_long, room_more}
use Rattle.first_senders.proofs.segments.write_segments.Goals as goal

pub slice_bounds-write_first-end : goal.slice_bounds-write_first-end
slice_bounds-write_first-end g c =
    let lt : c.loop-s.s < length c.args.result_d.now = omega (arith, c.count-s-end.ensures.value, c.loop-s-test.true, c.requires.count) in
    let fits : c.loop-s.start + c.length.result ≤ length c.loop-s.out =
    omega (arith, segment_within c.args.result_d.now c.loop-s.s lt, c.length.ensures, c.loop-s.invariant.start_is, c.loop-s.invariant.as_long, c.requires.as_long) in
    search (rules, fits)

pub write_first-requires-clause-within : goal.write_first-requires-clause-within
write_first-requires-clause-within g c =
    places_within c.args.d.now c.loop-s.s c.loop-s.first c.length-count.result _ (omega (arith, c.count-s-end.ensures.value, c.loop-s-test.true))
    c.loop-s.invariant.first_is c.length-count.ensures c.requires.total

pub loop-s-preserved : goal.loop-s-preserved
loop-s-preserved g c =
    let ts = g.D.Destinations.destinations c.args.destinations.now in
    let out = c.loop-s.out in
    let start = c.loop-s.start in
    let width = start + c.length.result - start in
    let lt : c.loop-s.s < length c.args.d.now = omega (arith, c.count-s-end.ensures.value, c.loop-s-test.true) in
    let in_result : c.loop-s.s < length c.args.result_d.now = omega (arith, lt, c.requires.count) in
    let fits : start + c.length.result ≤ length out =
    omega (arith, segment_within c.args.result_d.now c.loop-s.s in_result, c.length.ensures, c.loop-s.invariant.start_is, c.loop-s.invariant.as_long, c.requires.as_long) in
    let wide : length (take width (drop start out)) ≡ c.length.result = length-take-le width (drop start out) (omega (arith, length-drop start out, fits)) ∙ omega arith in
    let segment = take c.length-count.result (drop c.loop-s.first ts) in
    let written = c.write_first.ensures.written ∙ ap (first_senders segment 0) wide in
    let so_far = c.loop-s.invariant.so_far in
    record {
      first_is = omega (arith, sum_by_more (λ x. x) c.args.d.now c.loop-s.s 0 lt, c.length-count.ensures, c.loop-s.invariant.first_is);
      start_is = omega (arith, sum_by_more (λ x. x) c.args.result_d.now c.loop-s.s 0 in_result, c.length.ensures, c.loop-s.invariant.start_is);
      as_long = room_long c.args.d.now c.args.result_d.now ts c.requires.count c.loop-s.s lt c.loop-s.first c.length-count.result c.length.result c.length-count.ensures c.length.ensures
          out start so_far fits (put_mid start width out c.write_first.new.out) c.write_first.new.out written refl ∙ c.loop-s.invariant.as_long;
      so_far = room_more c.args.d.now c.args.result_d.now ts c.requires.count c.loop-s.s lt c.loop-s.first c.length-count.result c.length.result c.length-count.ensures c.length.ensures
          out start so_far fits (put_mid start width out c.write_first.new.out) c.write_first.new.out written refl;
    }

pub returns : goal.returns
returns g c =
    let ts = g.D.Destinations.destinations c.args.destinations.now in
    let past : length c.args.d.now ≤ c.loop-s.s = omega (arith, c.count-s-end.ensures.value, c.loop-s-test.false) in
    let all : sum (take c.loop-s.s c.args.result_d.now) ≡ sum c.args.result_d.now = ap sum (take_all c.loop-s.s c.args.result_d.now (omega (arith, past, c.requires.count))) in
    room_all c.args.d.now c.args.result_d.now ts c.loop-s.s c.loop-s.first c.loop-s.start c.loop-s.out past c.loop-s.invariant.so_far
    (omega (arith, all, c.loop-s.invariant.start_is, c.loop-s.invariant.as_long, c.requires.as_long))
