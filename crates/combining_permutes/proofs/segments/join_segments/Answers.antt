use Rattle.combining_permutes.proofs.Cited.{◌≡◌, ◌∙◌, ◌+◌, ◌-◌, ◌<◌, arith, drop, length, map, sym, take, true, zip, combined}
use Rattle.combining_permutes.proofs.BySegments.{ends_within, read_part, room_items, room_long, room_more}
use Rattle.combining_permutes.proofs.segments.join_segments.Goals as goal

pub loop-s-preserved : goal.loop-s-preserved
loop-s-preserved g c =
    let m = g.M.Monoid in
    let item = g.E.Reading.item in
    let index = c.args.index.now in
    let source = c.args.source.now in
    let l = c.loop-s in
    let n = c.length.result in
    let wide = c.length-in-loop-s.result in
    let lt : l.s < length c.args.d.now = omega (arith, c.count-s-end.ensures.value, c.loop-s-test.true) in
    let own = ends_within c.args.d.now l.s lt l.first n (length index) c.length.ensures l.invariant.total in
    let room = ends_within c.args.room_d.now l.s (omega (arith, lt, c.requires.count)) l.start wide (length l.out) c.length-in-loop-s.ensures l.invariant.room in
    let k = l.start + wide - l.start in
    let is_k : k ≡ wide = omega arith in
    let same : l.first + n - l.first ≡ n = omega arith in
    let written = c.combine_each.new.out in
    let is_written : written ≡ combined m.join (zip (take n (drop l.first index)) (take n (drop l.first (map item source)))) 0 (take wide (drop l.start l.out)) =
    c.combine_each.ensures.joined
    ∙ (λ i. combined m.join (zip (take (same i) (drop l.first index)) (read_part item (l.first + n - l.first) n l.first source same i)) 0 (take (is_k i) (drop l.start l.out))) in
    let long = room_long c.args.d.now c.args.room_d.now c.requires.count l.s lt n wide c.length.ensures c.length-in-loop-s.ensures m.join index (map item source) l.out _ l.first l.start room.0
    l.invariant.so_far k is_k written is_written in
    record {
      total = own.1;
      room = room.1 ∙ sym long;
      items = room_items c.args.d.now c.args.room_d.now c.requires.count l.s lt n wide c.length.ensures c.length-in-loop-s.ensures m.join index (map item source) l.out _ l.first l.start room.0
          l.invariant.so_far k is_k written is_written (λ v. m.is_item v ≡ true) l.invariant.items c.combine_each.ensures.items;
      so_far = room_more c.args.d.now c.args.room_d.now c.requires.count l.s lt n wide c.length.ensures c.length-in-loop-s.ensures m.join index (map item source) l.out _ l.first l.start room.0
          l.invariant.so_far k is_k written is_written;
    }
