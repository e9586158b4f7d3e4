use Rattle.std.proofs.Common.{◌∙◌, ap, subst, sym, arith}
use Rattle.cvl_base.specs.Gives.{Gives}
use Rattle.cvl_base.specs.Permutes.{flagged_destinations}
use Rattle.permute_walks.proofs.Sent.{count-flagged_destinations}
use Rattle.segment_sends.specs.SegmentDestinations.{flagged_in_segments}
use Rattle.segment_sends.proofs.Through.{destinations-flagged, places-flagged}
use Rattle.segmented_permutes.proofs.FlatIndices.{raced_flat, raced_within, destinations_flagged}
use Rattle.segmented_permutes.proofs.first_walk.flagged_segment_senders.Goals as goal

pub flat_indices-requires-clause-as_long : goal.flat_indices-requires-clause-as_long
flat_indices-requires-clause-as_long g c κs within = destinations-flagged c.args.d.now c.args.index.now c.args.flags.now c.requires.total (c.requires.total ∙ c.requires.as_long)

pub flat_indices-requires-clause-in_limit : goal.flat_indices-requires-clause-in_limit
flat_indices-requires-clause-in_limit g c κs within =
    let few_places = raced_within c.args.places c.args.way c.requires.few_places c.pace.ensures c.in-Some.is in
    omega (arith, places-flagged c.args.d.now c.args.index.now c.args.flags.now (c.requires.total ∙ c.requires.as_long), c.requires.whole, few_places)

pub senders_raced-requires-clause-few_places : goal.senders_raced-requires-clause-few_places
senders_raced-requires-clause-few_places g c κs within = raced_within c.args.places c.args.way c.requires.few_places c.pace.ensures c.in-Some.is

pub segment_senders_alone-requires-clause-few : goal.segment_senders_alone-requires-clause-few
segment_senders_alone-requires-clause-few g c κs within =
    omega (arith, destinations-flagged c.args.d.now c.args.index.now c.args.flags.now c.requires.total (c.requires.total ∙ c.requires.as_long), c.requires.in_limit)

pub segment_senders_alone-requires-clause-whole : goal.segment_senders_alone-requires-clause-whole
segment_senders_alone-requires-clause-whole g c κs within =
    places-flagged c.args.d.now c.args.index.now c.args.flags.now (c.requires.total ∙ c.requires.as_long) ∙ c.requires.whole

pub senders_raced-requires-clause-few : goal.senders_raced-requires-clause-few
senders_raced-requires-clause-few g c κs within = omega (arith, count-flagged_destinations c.deref.result.now c.args.flags.now, c.requires.as_long, c.requires.in_limit)

pub returns-in_ok-flat-in-Some-clause-senders : goal.returns-in_ok-flat-in-Some-clause-senders
returns-in_ok-flat-in-Some-clause-senders g c =
    let index = c.args.index.now in let flags = c.args.flags.now in let d = c.args.d.now in
    subst (Gives (λ v. v.items) c.senders_raced.result)
    (raced_flat (flagged_in_segments d index flags) c.args.places (flagged_destinations c.deref.result.now flags)
    (places-flagged d index flags (c.requires.total ∙ c.requires.as_long) ∙ c.requires.whole)
    (ap (λ js. flagged_destinations js flags) (c.deref.ensures.value ∙ c.in_ok-flat-in-Some.ensures.are)
    ∙ sym (destinations_flagged 0 d index flags (omega (arith, c.requires.total)) (omega (arith, c.requires.total, c.requires.as_long)))))
    c.senders_raced.ensures.senders
