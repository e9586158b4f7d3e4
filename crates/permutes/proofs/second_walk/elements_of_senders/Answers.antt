use Rattle.std.proofs.Common.{Vec, ◌≡◌, ap, arith, length}
use Rattle.std.proofs.lemmas.Grind.{common_steps}
use Rattle.permute_walks.specs.Before.{values_of}
use Rattle.permute_walks.proofs.Standing.{length-before}
use Rattle.permute_walks.proofs.Told.{permuted_refused}
use Rattle.permutes.proofs.second_walk.elements_of_senders.Goals as goal

pub write_in_runs-requires-after_bounds : goal.write_in_runs-requires-after_bounds
write_in_runs-requires-after_bounds g c κs within =
    let long : length c.deref.result.now ≡ length (values_of c.args.before) = grind (arith, common_steps) in
    omega (arith, length-before c.args.source.now c.deref.result.now c.args.before long, long, c.deref.ensures.len, c.len-places.ensures)

pub returns-in_ok-write_in_runs-in-Ok-clause-as_long : goal.returns-in_ok-write_in_runs-in-Ok-clause-as_long
returns-in_ok-write_in_runs-in-Ok-clause-as_long g c =
    let long : length c.deref.result.now ≡ length (values_of c.args.before) = grind (arith, common_steps) in
    omega (arith, c.in_ok-write_in_runs-in-Ok.field-0.ok.0, ap length c.in_ok-write_in_runs-in-Ok.ensures, length-before c.args.source.now c.deref.result.now c.args.before long)

pub returns-in-Err-clause-values : goal.returns-in-Err-clause-values
returns-in-Err-clause-values g c = λ first senders meaning gave call.
    permuted_refused call (λ (v : Vec _ g.row.A.Denot). v.items) c.args.found c.in-Err.refused c.in-Err.is gave (λ (v : Vec g.row.T.Denot g.row.A.Denot). v.items)
