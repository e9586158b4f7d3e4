use Rattle.std.proofs.Common.{◌≡◌, not, nat_le, Ok, rules}
use Rattle.std.specs.List.{list_all}
use Rattle.cvl_base.proofs.Rooms.{differs, told}
use Rattle.cvl_base.specs.declared.fault.FaultNo.TheVariants.{TooLong}
use Rattle.cvl_base.specs.Faults.{fault}
use Rattle.cvl_base.specs.Limits.{most_places}
use Rattle.permute_parts.specs.Marks.{mark_places_of, within_longest}
use Rattle.permute_parts.proofs.MarkPlaces.{length-mark_places}
use Rattle.permute_parts.proofs.Passed.{passed}
use Rattle.permute_parts.proofs.marks.mark_places.Goals as goal

pub returns-in_err-check_agree : goal.returns-in_err-check_agree
returns-in_err-check_agree c =
    let from = c.args.from.now in
    let within : within_longest from (Ok (mark_places_of from)) ≡ Ok (mark_places_of from) =
    passed (not (list_all (λ place. nat_le place most_places) from)) (fault TooLong) (Ok (mark_places_of from)) c.in_ok-check_begins.ensures in
    rw within (search (rules, length-mark_places, told, differs))
