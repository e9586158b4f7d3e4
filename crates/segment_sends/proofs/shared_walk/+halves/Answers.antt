use Rattle.std.proofs.Common.{◌-◌, ap, arith, length}
use Rattle.segment_sends.proofs.Shared.{back_share, front_share, middle_first, middle_room, shares_both}
use Rattle.segment_sends.proofs.shared_walk.+halves.Goals as goal

pub write_shared-write_by_buffer-requires-clause-share : goal.write_shared-write_by_buffer-requires-clause-share
write_shared-write_by_buffer-requires-clause-share g t c κs within = rw (c.source-source.ensures, c.before-before.ensures) c.requires.share

pub write_shared-overflow_sub-places : goal.write_shared-overflow_sub-places
write_shared-overflow_sub-places g t c =
    let cut = c.middle_of-middle.ensures in
    omega (arith, c.places_before.ensures, c.first.ensures, middle_first c.requires.share cut.in_order cut.within (λ i. c.places_before.ensures i - c.first.ensures i))

pub write_shared-split_at-front-requires : goal.write_shared-split_at-front-requires
write_shared-split_at-front-requires g t c =
    let cut = c.middle_of-middle.ensures in
    (omega (arith, ap length c.requires.share.empty), omega (arith, middle_room c.requires.share cut.in_order cut.within (λ i. c.places_before.ensures i - c.first.ensures i)))

pub write_shared-write_both-front-requires-clause-front_share : goal.write_shared-write_both-front-requires-clause-front_share
write_shared-write_both-front-requires-clause-front_share g t c κs within =
    let cut = c.middle_of-middle.ensures in
    front_share c.requires.share cut.in_order cut.within (λ i. c.places_before.ensures i - c.first.ensures i) c.split_at-front.ensures.first c.split_at-front.ensures.second

pub write_shared-write_both-front-requires-clause-back_share : goal.write_shared-write_both-front-requires-clause-back_share
write_shared-write_both-front-requires-clause-back_share g t c κs within =
    let cut = c.middle_of-middle.ensures in
    back_share c.requires.share cut.in_order cut.within (λ i. c.places_before.ensures i - c.first.ensures i) c.split_at-front.ensures.first c.split_at-front.ensures.second

pub write_shared-returns : goal.write_shared-returns
write_shared-returns g t c =
    let cut = c.middle_of-middle.ensures in
    shares_both c.requires.share cut.in_order cut.within (λ i. c.places_before.ensures i - c.first.ensures i) c.split_at-front.ensures.first c.split_at-front.ensures.second
    c.write_both-front.ensures.front c.write_both-front.ensures.back
    c.joined.result c.joined.ensures
