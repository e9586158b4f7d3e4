use Rattle.range_walks.proofs.Cited.{subst, sym}
use Rattle.cvl_base.specs.Descriptors.{AreLengthsWithin}
use Rattle.cvl_base.specs.Limits.{most_places}
use Rattle.range_walks.proofs.Segments.{range_lengths}
use Rattle.range_walks.proofs.short_segments.are_short_and_uneven.Goals as goal

pub total_of-requires : goal.total_of-requires
total_of-requires c =
    let shown = range_lengths c.args.lengths.now _ 0 c.min-shown.result c.requires.none_negative c.requires in
    subst (AreLengthsWithin most_places) (sym c.split_at.ensures.front) shown
