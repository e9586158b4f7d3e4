use Rattle.std.proofs.Common.{arith, ◌≡◌, ◌++◌, ◌∙◌, [], List, ℕ, length, take, ap, sym, append-nil}
use Rattle.std.specs.Prelude.{◌==◌, true}
use Rattle.std.specs.List.{concat}
use Rattle.std.proofs.lemmas.Bool.Decides.{nat_tests}
use Rattle.std.proofs.lemmas.List.{with_items_is}
use Rattle.std.proofs.lemmas.Result.{err_from_is_err_and}
use Rattle.value_texts.specs.Texts.{spaced}
use Rattle.script_runs.proofs.PutInParts.{IsPutUpTo, last_part, none_left, part_cut, part_put}
use Rattle.script_runs.proofs.long_texts.put_spaced.Goals as goal

pub returns-in_err-put : goal.returns-in_err-put
returns-in_err-put g c =
    rw (err_from_is_err_and c.from_residual.result c.from_residual.ensures.1).1
    (part_cut _ _ _ _ _ _ _ c.loop-rest.invariant.put (rw (c.in_err-put.was, c.deref.ensures.value) at c.put_and_write-put.ensures.put))

pub loop-rest-preserved : goal.loop-rest-preserved
loop-rest-preserved g c =
    let as_long : length c.put_and_write-put.new.spare ≡ c.loop-rest.spare.len =
    omega (arith, c.put_and_write-put.ensures.as_many, c.deref_mut-in-loop-rest.ensures.len) in
    let pieces : c.swap.new.x.items ≡ c.put_and_write-put.new.spare =
    ap (λ v. v.items) c.swap.ensures.x_after ∙ with_items_is c.loop-rest.spare c.put_and_write-put.new.spare as_long in
    let others : c.swap.new.y.items ≡ c.loop-rest.ready.items = ap (λ v. v.items) c.swap.ensures.y_after in
    let put = part_put _ _ _ _ _ _ c.loop-rest.invariant.put (rw (c.in_ok-put.was, c.deref.ensures.value) at c.put_and_write-put.ensures.put) in
    let as_many : length c.put_and_write-put.new.spare ≡ length c.loop-rest.spare.items = c.put_and_write-put.ensures.as_many ∙ ap length c.deref_mut-in-loop-rest.ensures.value in
    record {
      put = rw (pieces, c.put_and_write-put.ensures.text) put;
      within = rw pieces c.put_and_write-put.ensures.within;
      ready = ap length pieces ∙ as_many ∙ c.loop-rest.invariant.spare;
      spare = ap length others ∙ c.loop-rest.invariant.ready;
    }

pub returns : goal.returns
returns g c =
    let shown : (length c.loop-rest.rest.now == 0) ≡ true = sym c.loop-rest-test.ensures in
    let none : length c.loop-rest.rest.now ≡ 0 = grind (arith, nat_tests, shown) in
    let text : List ℕ = concat (take c.loop-rest.count c.loop-rest.ready.items) in
    let left : IsPutUpTo (spaced g.T.Written.text_of c.args.xs.now) (text ++ []) (g.S.Sink.seen c.args.sink.now) (g.S.Sink.seen c.loop-rest.sink) =
    rw (none_left c.loop-rest.rest.now none) at c.loop-rest.invariant.put in
    last_part _ _ _ _ _ _ (rw (append-nil text) at left) (rw c.deref-2.ensures.value at c.put_pieces.ensures)
