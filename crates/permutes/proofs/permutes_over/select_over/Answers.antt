use Rattle.std.proofs.Common.{◌∙◌, arith, refl}
use Rattle.permute_walks.proofs.Sent.{count-flagged_destinations}
use Rattle.permute_walks.proofs.Told.{sent_permuted}
use Rattle.permutes.proofs.Flat.{select_sent}
use Rattle.permutes.proofs.permutes_over.select_over.Goals as goal

pub permuted_over-requires-clause-few : goal.permuted_over-requires-clause-few
permuted_over-requires-clause-few g c κs within = omega (arith, count-flagged_destinations c.args.index.now c.args.flags.now, c.requires.in_limit)

pub returns : goal.returns
returns g c =
    c.permuted_over.ensures _
    (sent_permuted
    (select_sent c.args.source.now c.args.index.now c.in_ok-check_agree.ensures c.requires.in_limit c.args.flags.now _ (c.split_at.ensures.front_len ∙ c.true_count.ensures.value)
    c.in_ok-check_agree-2.ensures) _ refl)
