use Rattle.std.proofs.Common.{◌≡◌, true, codes, nat_eq, sym, ◌∙◌}
use Rattle.std.specs.Cmp.Lexicographic.{pointwise}
use Rattle.explained_calls.proofs.unknown_calls.put_unknown_call.Goals as goal

pub returns-then-eq : goal.returns-then-eq
returns-then-eq g c =
    let is : pointwise nat_eq c.args.call.now (codes "write") ≡ true = sym (rw c.as_slice.ensures at c.eq.ensures) ∙ c.if-eq.true in
    rw is c.put.ensures
