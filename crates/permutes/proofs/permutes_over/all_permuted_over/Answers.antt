use Rattle.std.proofs.Common.{◌≡◌, ◌∙◌, ap, arith, length, subst, None}
use Rattle.cvl_base.specs.Permutes.{all_destinations, first_fault, wrongs}
use Rattle.cvl_base.specs.Rooms.{in_room}
use Rattle.cvl_base.proofs.Rooms.{fits}
use Rattle.permute_walks.specs.Before.{values_of}
use Rattle.permute_walks.specs.Senders.{senders_of, written_over}
use Rattle.permute_walks.proofs.Told.{mismatch_or, permuted_in_one, permuted_told}
use Rattle.permutes.proofs.permutes_over.all_permuted_over.Goals as goal

pub returns-in_err-check_agree : goal.returns-in_err-check_agree
returns-in_err-check_agree g c = λ meaning call.
    let ts = all_destinations c.args.index.now in
    let e = c.in_err-check_agree in
    let long : length c.values-places.result.now ≡ length (values_of c.args.before) = ap length c.values-places.ensures in
    let right : None ≡ first_fault 0 (wrongs (length (values_of c.args.before)) ts) =
    subst (λ n. None ≡ first_fault 0 (wrongs n ts)) long (c.in_ok-is_scattered.ensures c.if-branch.true).1 in
    mismatch_or (permuted_told call) e.field-0.0 c.args.out.now right (e.ensures.0, λ same. e.ensures.1 (omega (arith, long, same)))
    c.from_residual-in_err-check_agree.result c.from_residual-in_err-check_agree.ensures.1

pub returns-then-branch : goal.returns-then-branch
returns-then-branch g c = λ meaning call.
    let ts = all_destinations c.args.index.now in
    let long : length c.values-places.result.now ≡ length (values_of c.args.before) = ap length c.values-places.ensures in
    let right : None ≡ first_fault 0 (wrongs (length (values_of c.args.before)) ts) =
    subst (λ n. None ≡ first_fault 0 (wrongs n ts)) long (c.in_ok-is_scattered.ensures c.if-branch.true).1 in
    let stands = c.let_stand.new.out in
    let room : length stands ≡ length (values_of c.args.before) = omega (arith, c.let_stand.ensures.long, c.in_ok-check_agree.ensures, long) in
    let written = c.scatter.ensures ∙ ap (λ n. written_over c.args.source.now (senders_of 0 ts n) stands) room in (
      ap (in_room (length c.args.out.now)) (permuted_in_one call stands c.scatter.new.out c.let_stand.ensures.stands right written)
          ∙ fits (length c.args.out.now) c.scatter.new.out (omega (arith, c.scatter.auto.out, c.let_stand.ensures.long)),
      tt,
    )

pub returns : goal.returns
returns g c = λ meaning call.
    c.permuted_over.ensures meaning call
