use Rattle.std.proofs.Common.{◌∙◌, arith, refl}
use Rattle.permute_walks.proofs.Sent.{count-flagged_destinations}
use Rattle.permute_walks.proofs.Told.{sent_permuted}
use Rattle.permutes.proofs.Flat.{select_sent}
use Rattle.permutes.proofs.sends.select.Goals as goal

pub permuted-requires-clause-few : goal.permuted-requires-clause-few
permuted-requires-clause-few g c κs within = omega (arith, count-flagged_destinations c.args.index.now c.args.flags.now, c.requires.in_limit)

pub permuted-requires-clause-sourced : goal.permuted-requires-clause-sourced
permuted-requires-clause-sourced g c κs within =
    omega (arith, count-flagged_destinations c.args.index.now c.args.flags.now, c.in_ok-check_agree.ensures, c.in_ok-check_agree-2.ensures)

pub returns-clause-values : goal.returns-clause-values
returns-clause-values g c =
    c.permuted.ensures.values _
    (sent_permuted
    (select_sent c.args.source.now c.args.index.now c.in_ok-check_agree.ensures (omega (arith, c.requires.in_limit)) c.args.flags.now _ (c.split_at.ensures.front_len ∙ c.true_count.ensures.value)
    c.in_ok-check_agree-2.ensures) _ refl)
