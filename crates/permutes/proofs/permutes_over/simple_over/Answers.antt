use Rattle.std.proofs.Common.{◌∙◌, ap, length, refl, sym, Ok}
use Rattle.permute_walks.proofs.Told.{fits_in_room, mismatch_or, sent_permuted, sent_told}
use Rattle.permutes.proofs.Flat.{simple_sent}
use Rattle.permutes.proofs.permutes_over.simple_over.Goals as goal

pub returns-in_err-check_agree-2 : goal.returns-in_err-check_agree-2
returns-in_err-check_agree-2 g c =
    mismatch_or (sent_told (simple_sent c.args.source.now c.args.index.now c.in_ok-check_agree.ensures c.requires.in_limit _ refl)) c.in_err-check_agree-2.field-0.0 c.args.out.now
    (c.in_ok-is_permutation_along.ensures c.if-branch.true) c.in_err-check_agree-2.ensures c.from_residual-in_err-check_agree-2.result c.from_residual-in_err-check_agree-2.ensures.1

pub returns-then-branch : goal.returns-then-branch
returns-then-branch g c = (
  fits_in_room (sent_told (simple_sent c.args.source.now c.args.index.now c.in_ok-check_agree.ensures c.requires.in_limit _ refl)) (length c.args.out.now)
      (c.in_ok-is_permutation_along.ensures c.if-branch.true) c.in_ok-check_agree-2.ensures ∙ ap Ok (sym c.scatter_over.ensures),
  tt,
)

pub returns : goal.returns
returns g c =
    let agree = c.in_ok-check_agree.ensures in
    c.all_permuted_over.ensures _ (sent_permuted (simple_sent c.args.source.now c.args.index.now agree c.requires.in_limit _ agree) _ refl)
