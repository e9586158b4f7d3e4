use Rattle.std.proofs.Common.{length, subst}
use Rattle.cvl_base.specs.Rooms.{Overwrites, in_room}
use Rattle.part_cuts.proofs.Told.{as_they_are}
use Rattle.part_cuts.proofs.places.exact_places.Goals as goal

pub returns : goal.returns
returns c =
    let before = c.args.places.now in
    subst (λ meaning. Overwrites (in_room (length before) meaning) c.places_by.result before c.places_by.new.places)
    (as_they_are c.args.sizes.now c.args.len) c.places_by.ensures
