use Rattle.std.proofs.Common.{◌∙◌, arith, sym}
use Rattle.permute_walks.proofs.Told.{found_gives, sent_permuted}
use Rattle.segment_sends.proofs.Through.{destinations-flagged, places-flagged}
use Rattle.segmented_permutes.proofs.Whole.{seg_select_sent}
use Rattle.segmented_permutes.proofs.sends.seg_select.Goals as goal

pub permuted_in_one-requires-clause-few : goal.permuted_in_one-requires-clause-few
permuted_in_one-requires-clause-few g c κs within =
    omega (arith, destinations-flagged c.args.d.now c.args.index.now c.args.flags.now c.in_ok-check_total-2.ensures.agrees c.in_ok-check_total-3.ensures.agrees, c.requires.in_limit)

pub permuted_in_one-requires-clause-whole : goal.permuted_in_one-requires-clause-whole
permuted_in_one-requires-clause-whole g c κs within =
    places-flagged c.args.d.now c.args.index.now c.args.flags.now c.in_ok-check_total-3.ensures.agrees ∙ sym c.true_count-places.ensures.value ∙ sym c.split_at.ensures.front_len

pub returns-in-Some-clause-values : goal.returns-in-Some-clause-values
returns-in-Some-clause-values g c =
    found_gives _ c.in_ok-in_one.in_one c.in-Some.elements c.in-Some.is c.in_ok-in_one.ensures.values _
    (sent_permuted
    (seg_select_sent c.args.source.now c.args.index.now c.args.d.now c.in_ok-check_total.ensures.agrees c.in_ok-check_total-2.ensures.agrees (omega (arith, c.requires.in_limit)) c.args.flags.now
    c.in_ok-check_total-3.ensures.agrees) _ (c.split_at.ensures.front_len ∙ c.true_count-places.ensures.value))

pub returns-clause-values : goal.returns-clause-values
returns-clause-values g c =
    c.elements_of_senders.ensures.values _ _ _ c.flagged_segment_senders-found.ensures.senders
    (sent_permuted
    (seg_select_sent c.args.source.now c.args.index.now c.args.d.now c.in_ok-check_total.ensures.agrees c.in_ok-check_total-2.ensures.agrees (omega (arith, c.requires.in_limit)) c.args.flags.now
    c.in_ok-check_total-3.ensures.agrees) _ (c.split_at.ensures.front_len ∙ c.true_count-places.ensures.value))
