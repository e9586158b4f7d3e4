use Rattle.fresh.proofs.Cited.{◌<◌, length, sym, subst, arith, get_or-zip, length-zip, zip}
use Rattle.fresh.proofs.InTurn.{all_by_number}
use Rattle.fresh.proofs.run.Run.fill_from_both.Goals as goal

pub returns-then-is_narrower : goal.returns-then-is_narrower
returns-then-is_narrower g c =
    let xs = c.args.xs.now in let ys = c.args.ys.now in let asked = c.requires.as_long in let long = length-zip xs ys in
    all_by_number (λ p z. g.F.Fn.post c.args.f (p.0, (p.1, tt)) z) _ (zip xs ys) c.args.self c.fill_by_sixteens.result (omega (arith, long, asked.0, asked.1))
    (λ k z lt is p. let in_xs : k < length xs = omega (arith, lt, long, asked.0, asked.1) in let in_ys : k < length ys = omega (arith, in_xs, asked.0, asked.1) in
    subst (λ q. g.F.Fn.post c.args.f (q.0, (q.1, tt)) z) (sym (get_or-zip xs ys k p in_xs in_ys)) (is p.0 p.1)) c.fill_by_sixteens.ensures
