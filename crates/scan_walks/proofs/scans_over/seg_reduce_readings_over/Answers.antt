use Rattle.scan_walks.proofs.Cited.{rules, ◌≡◌, ◌∙◌, Err, ap, arith, length, map, sym, unsigned_abs, length-map, in_room, differs, fits, told, reduces_of}
use Rattle.scan_walks.proofs.Segmented.{length-reduces_of, seg_reduce-fits}
use Rattle.scan_walks.proofs.scans_over.seg_reduce_readings_over.Goals as goal

pub returns-in_err-check_agree : goal.returns-in_err-check_agree
returns-in_err-check_agree g c =
    let m = g.M.Monoid in let item = g.E.Reading.item in let a = c.args.a.now in let d = c.args.d.now in let room = length c.args.out.now in
    let sums = reduces_of m.join m.unit d (map item a) in
    let long : length sums ≡ length d = length-reduces_of m.join m.unit (map item a) d in
    told _ c.from_residual-in_err-check_agree.result c.in_err-check_agree.field-0.0 c.args.out.now c.from_residual-in_err-check_agree.ensures.1
    (ap (in_room room) (seg_reduce-fits m.join m.unit (map item a) d (c.in_ok-check_total.ensures.agrees ∙ sym (length-map a item)))
    ∙ differs room sums (λ same. c.in_err-check_agree.ensures.1 (c.count.ensures.value ∙ sym long ∙ same)) ∙ ap Err (sym c.in_err-check_agree.ensures.0))

pub fill_slice-requires-clause-full : goal.fill_slice-requires-clause-full
fill_slice-requires-clause-full g c = λ block run done.
    let m = g.M.Monoid in let item = g.E.Reading.item in let a = c.args.a.now in let d = c.args.d.now in let is = done.1 in
    let long : length (reduces_of m.join m.unit (map unsigned_abs c.lengths-lengths.result.now) (map item a)) ≡ length c.args.out.now =
    ap (λ ls. length (reduces_of m.join m.unit ls (map item a))) c.lengths-lengths.ensures.read
    ∙ length-reduces_of m.join m.unit (map item a) d ∙ sym c.count.ensures.value ∙ c.in_ok-check_agree.ensures in
    (ap (λ s. s.block) is, ap (λ s. s.first) is, ap (λ s. s.room) is ∙ omega (arith, long), ap (λ s. length s.items) is ∙ long)

pub returns : goal.returns
returns g c = search (rules, length-reduces_of, seg_reduce-fits, length-map, fits)
