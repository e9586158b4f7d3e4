use Rattle.std.proofs.Common.{◌∙◌, ap, subst, sym, arith}
use Rattle.cvl_base.specs.Gives.{Gives}
use Rattle.cvl_base.specs.Permutes.{all_destinations}
use Rattle.segment_sends.specs.SegmentDestinations.{all_in_segments}
use Rattle.segment_sends.proofs.Through.{destinations-all, places-all}
use Rattle.segmented_permutes.proofs.FlatIndices.{raced_flat, raced_within, destinations_all}
use Rattle.segmented_permutes.proofs.first_walk.segment_senders.Goals as goal

pub flat_indices-requires-clause-as_long : goal.flat_indices-requires-clause-as_long
flat_indices-requires-clause-as_long g c κs within = destinations-all c.args.d.now c.args.result_d.now c.args.index.now c.requires.total c.requires.count

pub flat_indices-requires-clause-in_limit : goal.flat_indices-requires-clause-in_limit
flat_indices-requires-clause-in_limit g c κs within =
    let few_places = raced_within c.args.places c.args.way c.requires.few_places c.pace.ensures c.in-Some.is in
    omega (arith, places-all c.args.d.now c.args.result_d.now c.args.index.now c.requires.count, c.requires.whole, few_places)

pub senders_raced-requires-clause-few_places : goal.senders_raced-requires-clause-few_places
senders_raced-requires-clause-few_places g c κs within = raced_within c.args.places c.args.way c.requires.few_places c.pace.ensures c.in-Some.is

pub segment_senders_alone-requires-clause-few : goal.segment_senders_alone-requires-clause-few
segment_senders_alone-requires-clause-few g c κs within =
    omega (arith, destinations-all c.args.d.now c.args.result_d.now c.args.index.now c.requires.total c.requires.count, c.requires.in_limit)

pub segment_senders_alone-requires-clause-whole : goal.segment_senders_alone-requires-clause-whole
segment_senders_alone-requires-clause-whole g c κs within = places-all c.args.d.now c.args.result_d.now c.args.index.now c.requires.count ∙ c.requires.whole

pub returns-in_ok-flat-in-Some-clause-senders : goal.returns-in_ok-flat-in-Some-clause-senders
returns-in_ok-flat-in-Some-clause-senders g c =
    let segments = all_in_segments c.args.d.now c.args.result_d.now c.args.index.now in
    subst (Gives (λ v. v.items) c.senders_raced.result)
    (raced_flat segments c.args.places (all_destinations c.deref.result.now) (places-all c.args.d.now c.args.result_d.now c.args.index.now c.requires.count ∙ c.requires.whole)
    (ap all_destinations (c.deref.ensures.value ∙ c.in_ok-flat-in-Some.ensures.are) ∙ sym (destinations_all 0 c.args.d.now c.args.result_d.now c.args.index.now (omega (arith, c.requires.total)))))
    c.senders_raced.ensures.senders
