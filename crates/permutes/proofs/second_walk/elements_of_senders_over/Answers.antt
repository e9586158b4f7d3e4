use Rattle.std.proofs.Common.{Vec, ◌≡◌, arith, length, sym, Ok, subst}
use Rattle.std.proofs.lemmas.Grind.{common_steps}
use Rattle.cvl_base.specs.Gives.{Gives, unless}
use Rattle.permute_walks.specs.Before.{values_of}
use Rattle.permute_walks.proofs.Standing.{length-before}
use Rattle.permute_walks.proofs.Told.{found_are, mismatch_or, permuted_refused_over, permuted_told}
use Rattle.permutes.proofs.second_walk.elements_of_senders_over.Goals as goal

pub returns-in_err-check_agree-in-Ok : goal.returns-in_err-check_agree-in-Ok
returns-in_err-check_agree-in-Ok g c = λ first senders meaning gave call.
    let e = c.in_err-check_agree-in-Ok in
    let long : c.len.result ≡ length (values_of c.args.before) = grind (arith, common_steps) in
    let are = found_are first senders c.in-Ok.senders.items (subst (λ r. Gives (λ (v : Vec _ g.row.A.Denot). v.items) r (unless first (Ok senders))) c.in-Ok.is gave) in
    mismatch_or (permuted_told call) e.field-0.0 c.args.out.now (sym are.0) (e.ensures.0, λ same. e.ensures.1 (omega (arith, long, same))) c.from_residual.result c.from_residual.ensures.1

pub write_over-requires-clause-as_long : goal.write_over-requires-clause-as_long
write_over-requires-clause-as_long g c =
    let long : length c.deref.result.now ≡ length (values_of c.args.before) = grind (arith, common_steps) in
    omega (arith, length-before c.args.source.now c.deref.result.now c.args.before long, long, c.deref.ensures.len, c.len.ensures, c.in_ok-check_agree-in-Ok.ensures)

pub returns-in-Err : goal.returns-in-Err
returns-in-Err g c = λ first senders meaning gave call.
    permuted_refused_over call (λ (v : Vec _ g.row.A.Denot). v.items) c.args.found c.in-Err.refused c.in-Err.is gave c.args.out.now
