use Rattle.std.proofs.Common.{◌∙◌, ◌+ℤ◌, ◌≡◌, ◌≤◌, ap, length, refl, subst, sym, zip}
use Rattle.std.specs.List.{AllPass, AllZip}
use Rattle.c_calls.specs.Told.{Told, done}
use Rattle.combine_parts.specs.Cuts.{may_cut}
use Rattle.combining_permutes.specs.CombiningPermutes.{combined}
use Rattle.cvl_base.specs.Limits.{most_places}
use Rattle.long_sums.specs.LongSums.{may_grow}
use Rattle.step_laws.proofs.AnyOrder.{in_any_order}
use Rattle.step_laws.proofs.CombinedInRanges.{looked_inside, was_cut}
use Rattle.step_laws.proofs.Parted.{as-long}
use Rattle.step_laws.proofs.RangesOfRoom.{cut_shares}
use Rattle.step_laws.proofs.SummedInParts.{may_all_grow, may_each_grow, ranges_all, whole-given}
use Rattle.step_laws.specs.CombineParts.{elements_of, index_of, room_of}
use Rattle.step_laws.specs.CombineSteps.{AddsToRange, LooksAtIndices, MayGrow}
use Rattle.step_laws.proofs.combines.exact_sums_by_ranges.Goals as goal

pub returns : goal.returns
returns c = λ start looked cut cuts room first before after many few few_places looks told some has may adds.
    let source = elements_of start in
    let index = index_of start in
    let agree : length source ≡ length index = as-long (λ b. b.index) (λ b. b.elements) start many in
    let shares = cut_shares room cuts first some (was_cut (may_cut (length cut)) (length room) cut cuts told) has in
    let mays = in_any_order MayGrow first before may in
    let grow = may_all_grow first before mays in
    let joins = subst (λ ss. AllZip (AddsToRange source index) ss after) grow.1 (in_any_order (AddsToRange source index) before after adds) in
    let written = ranges_all source index first after agree few (subst (λ zs. length zs ≤ most_places) (sym shares.1) few_places) shares.0 (may_each_grow first before mays) joins
    ∙ ap (combined ◌+ℤ◌ (zip index source) 0) shares.1 in
    let inside = looked_inside (length room) start looked (in_any_order (LooksAtIndices (length room)) start looked looks) in
    subst (λ m. Told m done room (room_of after))
    (sym (whole-given source index room agree few few_places (subst (AllPass may_grow) shares.1 grow.0) inside)) (refl, written)
