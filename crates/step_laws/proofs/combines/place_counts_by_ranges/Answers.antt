use Rattle.std.proofs.Common.{◌≡◌, ◌∙◌, ◌≤◌, Ok, ap, length, refl, subst, sym}
use Rattle.c_calls.specs.Calls.{in_limit}
use Rattle.c_calls.specs.Told.{Told, done}
use Rattle.combine_parts.specs.Cuts.{may_cut}
use Rattle.combining_permutes.specs.CombiningPermutes.{place_counts, place_counts_of}
use Rattle.cvl_base.specs.Gives.{unless}
use Rattle.cvl_base.specs.Limits.{most_places}
use Rattle.step_laws.proofs.Answered.{within}
use Rattle.step_laws.proofs.AnyOrder.{in_any_order}
use Rattle.step_laws.proofs.CombinedInRanges.{looked_inside, was_cut}
use Rattle.step_laws.proofs.CountedInParts.{ranges_all}
use Rattle.step_laws.proofs.RangesOfRoom.{cut_shares}
use Rattle.step_laws.specs.CombineParts.{index_of, room_of}
use Rattle.step_laws.specs.CombineSteps.{CountsRange, LooksAtIndices}
use Rattle.step_laws.proofs.combines.place_counts_by_ranges.Goals as goal

pub returns : goal.returns
returns g c = λ start looked cut cuts room before after few few_places looks told some has counts.
    let index = index_of start in
    let shares = cut_shares room cuts before some (was_cut (may_cut (length cut)) (length room) cut cuts told) has in
    let written = ranges_all index before after few (subst (λ zs. length zs ≤ most_places) (sym shares.1) few_places) shares.0 (in_any_order (CountsRange index) before after counts)
    ∙ ap (λ zs. place_counts index 0 (length zs)) shares.1 in
    let inside = looked_inside (length room) start looked (in_any_order (LooksAtIndices (length room)) start looked looks) in
    let given : in_limit index (in_limit room (place_counts_of index (length room))) ≡ Ok (place_counts index 0 (length room)) =
    within index _ few ∙ within room _ few_places ∙ ap (λ f. unless f (Ok (place_counts index 0 (length room)))) inside in
    subst (λ m. Told m done room (room_of after)) (sym given) (refl, written)
