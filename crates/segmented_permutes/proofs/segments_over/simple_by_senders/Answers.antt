use Rattle.std.proofs.Common.{◌≡◌, ◌∙◌, ap, length, refl, subst, sum, sym}
use Rattle.cvl_base.specs.Rooms.{OverwritesOr, in_room}
use Rattle.cvl_base.specs.SegmentedCalls.{seg_simple_of}
use Rattle.permute_walks.proofs.Told.{sent_permuted}
use Rattle.segment_sends.proofs.Through.{places-all}
use Rattle.segmented_permutes.proofs.Whole.{few_sent, seg_simple_sent}
use Rattle.segmented_permutes.proofs.segments_over.simple_by_senders.Goals as goal

pub permuted_over-requires-clause-few : goal.permuted_over-requires-clause-few
permuted_over-requires-clause-few g c κs within =
    few_sent c.in_ok-d.d c.in_ok-d.d c.args.index.now _ c.requires.in_limit (ap sum c.in_ok-d.ensures ∙ c.requires.total) refl

pub permuted_over-requires-clause-whole : goal.permuted_over-requires-clause-whole
permuted_over-requires-clause-whole g c κs within =
    places-all c.in_ok-d.d c.in_ok-d.d c.args.index.now refl ∙ ap sum c.in_ok-d.ensures ∙ c.requires.source_total

pub returns : goal.returns
returns g c =
    let source = c.args.source.now in
    let index = c.args.index.now in
    let kept = c.in_ok-d.ensures in
    let total : sum c.in_ok-d.d ≡ length source = ap sum kept ∙ c.requires.source_total in
    let index_total : sum c.in_ok-d.d ≡ length index = ap sum kept ∙ c.requires.total in
    subst (λ lengths. OverwritesOr (in_room (length c.args.out.now) (seg_simple_of source index lengths)) c.permuted_over.result c.args.out.now c.permuted_over.new.out) kept
    (c.permuted_over.ensures _ (sent_permuted (seg_simple_sent source index c.in_ok-d.d total index_total c.requires.in_limit) _ (sym total ∙ index_total)))
