use Rattle.std.proofs.Common.{◌∙◌, arith, sym}
use Rattle.permute_walks.proofs.Told.{sent_permuted}
use Rattle.segment_sends.proofs.Through.{destinations-flagged, places-flagged}
use Rattle.segmented_permutes.proofs.Whole.{seg_select_sent}
use Rattle.segmented_permutes.proofs.segments_over.seg_select_over.Goals as goal

pub permuted_over-requires-clause-few : goal.permuted_over-requires-clause-few
permuted_over-requires-clause-few g c κs within =
    omega (arith, destinations-flagged c.args.d.now c.args.index.now c.args.flags.now c.in_ok-check_total-2.ensures.agrees c.in_ok-check_total-3.ensures.agrees, c.requires.in_limit)

pub permuted_over-requires-clause-whole : goal.permuted_over-requires-clause-whole
permuted_over-requires-clause-whole g c κs within =
    places-flagged c.args.d.now c.args.index.now c.args.flags.now c.in_ok-check_total-3.ensures.agrees ∙ sym c.true_count.ensures.value ∙ sym c.split_at.ensures.front_len

pub returns : goal.returns
returns g c =
    c.permuted_over.ensures _
    (sent_permuted
    (seg_select_sent c.args.source.now c.args.index.now c.args.d.now c.in_ok-check_total.ensures.agrees c.in_ok-check_total-2.ensures.agrees c.requires.in_limit c.args.flags.now
    c.in_ok-check_total-3.ensures.agrees) _ (c.split_at.ensures.front_len ∙ c.true_count.ensures.value))
