use Rattle.scan_walks.proofs.Cited.{rules, ◌≡◌, ◌∙◌, Err, ap, arith, length, map, sym, unsigned_abs, in_room, differs, fits, told, scans_of, length-scans_of}
use Rattle.scan_walks.proofs.Segmented.{seg_scan-fits}
use Rattle.scan_walks.proofs.scans_over.seg_scan_over.Goals as goal

pub returns-in_err-check_agree : goal.returns-in_err-check_agree
returns-in_err-check_agree g c =
    let m = g.M.Monoid in let a = c.args.a.now in let d = c.args.d.now in let room = length c.args.out.now in let agrees = c.in_ok-check_total.ensures.agrees in
    let sums = scans_of m.join m.unit d a in
    let long : length sums ≡ length a = length-scans_of m.join m.unit d a (omega (arith, agrees)) in
    told _ c.from_residual-in_err-check_agree.result c.in_err-check_agree.field-0.0 c.args.out.now c.from_residual-in_err-check_agree.ensures.1
    (ap (in_room room) (seg_scan-fits m.join m.unit a d agrees)
    ∙ differs room sums (λ same. c.in_err-check_agree.ensures.1 (sym long ∙ same)) ∙ ap Err (sym c.in_err-check_agree.ensures.0))

pub fill_slice-requires-clause-full : goal.fill_slice-requires-clause-full
fill_slice-requires-clause-full g c = λ block run done.
    let m = g.M.Monoid in let a = c.args.a.now in let d = c.args.d.now in let is = done.1 in
    let long : length (scans_of m.join m.unit (map unsigned_abs c.lengths-lengths.result.now) a) ≡ length c.args.out.now =
    ap (λ ls. length (scans_of m.join m.unit ls a)) c.lengths-lengths.ensures.read
    ∙ length-scans_of m.join m.unit d a (omega (arith, c.in_ok-check_total.ensures.agrees)) ∙ c.in_ok-check_agree.ensures in
    (ap (λ s. s.block) is, ap (λ s. s.first) is, ap (λ s. s.room) is ∙ omega (arith, long), ap (λ s. length s.items) is ∙ long)

pub returns : goal.returns
returns g c = search (rules, seg_scan-fits, fits, length-scans_of)
