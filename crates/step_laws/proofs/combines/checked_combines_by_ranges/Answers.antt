use Rattle.std.proofs.Common.{◌≡◌, ◌≤◌, None, length, subst, sym}
use Rattle.c_calls.specs.Calls.{in_limit}
use Rattle.c_calls.specs.Told.{Told, done}
use Rattle.combine_parts.specs.Cuts.{may_cut}
use Rattle.cvl_base.specs.Limits.{most_places}
use Rattle.exact_combines.specs.ExactCombines.{checked_combine_of}
use Rattle.permute_walks.specs.Indices.{first_outside}
use Rattle.step_laws.proofs.AnyOrder.{in_any_order}
use Rattle.step_laws.proofs.CheckedInParts.{ranges_checked}
use Rattle.step_laws.proofs.CombinedInRanges.{looked_inside, was_cut}
use Rattle.step_laws.proofs.OverflowFaults.{ranges_overflow}
use Rattle.step_laws.proofs.Parted.{as-long}
use Rattle.step_laws.proofs.PartFaults.{HasFault}
use Rattle.step_laws.proofs.RangesOfRoom.{cut_shares}
use Rattle.step_laws.specs.CombineParts.{elements_of, index_of, room_of}
use Rattle.step_laws.specs.CombineSteps.{LooksAtIndices, Narrows, SumsRange}
use Rattle.step_laws.proofs.combines.checked_combines_by_ranges.Goals as goal

pub returns : goal.returns
returns c = record {
  summed = λ start looked cut cuts room before summed after many few few_places looks told some has sums narrows.
      let source = elements_of start in
      let index = index_of start in
      let agree : length source ≡ length index = as-long (λ b. b.index) (λ b. b.elements) start many in
      let shares = cut_shares room cuts before some (was_cut (may_cut (length cut)) (length room) cut cuts told) has in
      let inside = looked_inside (length room) start looked (in_any_order (LooksAtIndices (length room)) start looked looks) in
      subst (λ zs. Told (in_limit index (in_limit zs (checked_combine_of source index zs))) done zs (room_of after)) shares.1
      (ranges_checked source index before summed after agree few (subst (λ zs. length zs ≤ most_places) (sym shares.1) few_places)
      (subst (λ zs. first_outside 0 (length zs) index ≡ None) (sym shares.1) inside) shares.0
      (in_any_order (SumsRange source index) before summed sums) (in_any_order Narrows summed after narrows));
  overflows = λ start cut cuts room before k own status many few few_places told some has here as_many fits fails.
      let source = elements_of start in
      let index = index_of start in
      let agree : length source ≡ length index = as-long (λ b. b.index) (λ b. b.elements) start many in
      let shares = cut_shares room cuts before some (was_cut (may_cut (length cut)) (length room) cut cuts told) has in
      subst (λ zs. HasFault (in_limit index (in_limit zs (checked_combine_of source index zs)))) shares.1
      (ranges_overflow source index agree few before (subst (λ zs. length zs ≤ most_places) (sym shares.1) few_places) shares.0 k own here as_many status fits fails);
}
