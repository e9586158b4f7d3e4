use Rattle.tile_scans.proofs.Cited.{Ok, map, sym, ap, ◌∙◌, length-map, reduces_of, seg_reduce-fits}
use Rattle.tile_scans.proofs.reduces.seg_reduce_readings.Goals as goal

pub returns-clause-values : goal.returns-clause-values
returns-clause-values g c =
    let m = g.M.Monoid in
    let item = g.E.Reading.item in
    let d = c.args.d.now in
    seg_reduce-fits m.join m.unit (map item c.args.a.now) d (c.in_ok-check_total.ensures.agrees ∙ sym (length-map c.args.a.now item))
    ∙ ap (λ sums. Ok sums) (sym (c.in_ok-reduces.ensures.values ∙ ap (λ ys. reduces_of m.join m.unit d (map item ys)) c.new-vector.ensures.elements))
