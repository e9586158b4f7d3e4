use Rattle.elementwise.proofs.Cited.{◌∙◌, Ok, ap, arith, map, sym, zip, length-map, length-zip, chosen, if_as_long-fits}
use Rattle.elementwise.proofs.choice.select.Goals as goal

pub written_by_rayon-requires-after_bounds : goal.written_by_rayon-requires-after_bounds
written_by_rayon-requires-after_bounds g c κs within =
    let flags = c.args.flags.now in let pairs = zip c.args.a.now c.args.b.now in
    rw (c.new-chosen.ensures.flags, c.new-chosen.ensures.first, c.new-chosen.ensures.second) (
    omega (arith, length-map (zip flags pairs) (λ p. chosen p.0 p.1), length-zip flags pairs, length-zip c.args.a.now c.args.b.now, c.in_ok-check_agree.ensures, c.in_ok-check_agree-2.ensures)
    )

pub returns-clause-values : goal.returns-clause-values
returns-clause-values g c =
    let flags = c.args.flags.now in let a = c.args.a.now in let b = c.args.b.now in let are = c.new-chosen.ensures in
    if_as_long-fits flags a _ c.in_ok-check_agree.ensures
    ∙ if_as_long-fits flags b _ c.in_ok-check_agree-2.ensures
    ∙ ap Ok (sym (c.in_ok-written_by_rayon.ensures.values ∙ λ i. map (λ p. chosen p.0 p.1) (zip (are.flags i) (zip (are.first i) (are.second i)))))
