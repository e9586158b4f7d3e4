use Rattle.fresh.proofs.InTurn.{all_by_number, values_of}
use Rattle.fresh.proofs.run.Run.fill_from.Goals as goal

pub returns-then-is_narrower-clause-each : goal.returns-then-is_narrower-clause-each
returns-then-is_narrower-clause-each g c =
    all_by_number (λ x y. g.F.Fn.post c.args.f (x, tt) y) _ c.args.xs.now c.args.self c.fill_by_sixteens.result c.requires.as_long (λ k y lt is. is) c.fill_by_sixteens.ensures

pub returns-then-is_narrower-clause-values : goal.returns-then-is_narrower-clause-values
returns-then-is_narrower-clause-values g c =
    values_of (λ x y. g.F.Fn.post c.args.f (x, tt) y) c.args.xs.now c.args.self c.fill_by_sixteens.result
    (all_by_number (λ x y. g.F.Fn.post c.args.f (x, tt) y) _ c.args.xs.now c.args.self c.fill_by_sixteens.result c.requires.as_long (λ k y lt is. is) c.fill_by_sixteens.ensures)

pub returns-else-is_narrower-clause-values : goal.returns-else-is_narrower-clause-values
returns-else-is_narrower-clause-values g c =
    values_of (λ x y. g.F.Fn.post c.args.f (x, tt) y) c.args.xs.now c.args.self c.fill_each.result c.fill_each.ensures
