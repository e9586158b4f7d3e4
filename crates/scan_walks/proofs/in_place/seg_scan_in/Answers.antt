use Rattle.scan_walks.proofs.Cited.{◌∙◌, Ok, ap, scans_of, sym}
use Rattle.scan_walks.proofs.Segmented.{seg_scan-fits}
use Rattle.scan_walks.proofs.in_place.seg_scan_in.Goals as goal

pub returns : goal.returns
returns g c =
    let m = g.M.Monoid in let a = c.args.a.now in
    seg_scan-fits m.join m.unit a c.args.d.now c.in_ok-check_total.ensures.agrees
    ∙ ap Ok (sym (c.scans_in.ensures ∙ ap (λ ls. scans_of m.join m.unit ls a) c.lengths.ensures.read))
