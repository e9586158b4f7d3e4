use Rattle.scan_walks.proofs.Cited.{rules, ◌≡◌, ◌∙◌, ap, arith, length, scan_of, differs, told, length-scan_of}
use Rattle.scan_walks.proofs.scans_over.scan_over.Goals as goal

pub returns-in_err-check_agree : goal.returns-in_err-check_agree
returns-in_err-check_agree g c = search (rules, length-scan_of, told, differs)

pub fill_slice-requires-clause-full : goal.fill_slice-requires-clause-full
fill_slice-requires-clause-full g c = λ block run done.
    let m = g.M.Monoid in let a = c.args.a.now in let is = done.1 in
    let long : length (scan_of m.join c.args.before a) ≡ length c.args.out.now = omega (arith, length-scan_of m.join c.args.before a, c.in_ok-check_agree.ensures) in
    (ap (λ s. s.block) is, ap (λ s. s.first) is, ap (λ s. s.room) is ∙ omega (arith, long), ap (λ s. length s.items) is ∙ long)
