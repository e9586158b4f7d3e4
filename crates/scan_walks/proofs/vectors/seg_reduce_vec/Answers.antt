use Rattle.scan_walks.proofs.Cited.{◌-◌, ◌∙◌, Ok, arith, drop, length, map, sym, ap, length-map, length-take, reduces_of, take_all, all_written}
use Rattle.scan_walks.proofs.Segmented.{length-reduces_of, seg_reduce-fits}
use Rattle.scan_walks.proofs.vectors.seg_reduce_vec.Goals as goal

pub returns : goal.returns
returns g c =
    let m = g.M.Monoid in
    let d = c.args.d.now in
    let xs = map g.E.Reading.item c.args.a.now in
    let whole = reduces_of m.join m.unit d xs in
    let long = length-reduces_of m.join m.unit xs d in
    let short = length-take (c.count-count.result - 0) (drop 0 whole) in
    let items = (all_written c.in_ok-room.room c.in_ok-room.run' c.seg_reduces_into.result _ _ c.in_ok-room.ensures.room c.in_ok-room.ensures.run c.seg_reduces_into.ensures (omega (arith, short))).1
    ∙ take_all (c.count-count.result - 0) whole (omega (arith, long, c.count-count.ensures.value)) in
    record {
      values = seg_reduce-fits m.join m.unit xs d (c.in_ok-check_total.ensures.agrees ∙ sym (length-map c.args.a.now g.E.Reading.item)) ∙ ap (λ sums. Ok sums) (sym (c.into_vec.ensures.items ∙ items));
      one_each = omega (arith, c.into_vec.ensures.len, ap length items, long);
    }
