use Rattle.std.proofs.Common.{length, subst}
use Rattle.std.specs.List.{AllZip}
use Rattle.step_laws.proofs.AnyOrder.{in_any_order}
use Rattle.step_laws.proofs.SumFaults.{exact_fails}
use Rattle.step_laws.proofs.SummedInParts.{may_all_grow, summed}
use Rattle.step_laws.specs.CombineParts.{room_of}
use Rattle.step_laws.specs.CombineSteps.{JoinsSums, MayGrow, SumsOwn}
use Rattle.step_laws.proofs.combines.exact_sums_by_rooms.Goals as goal

pub returns : goal.returns
returns c = record {
  summed = λ boundaries memory start made first before after numbers few few_places begin looks sums has joins.
      let grow = may_all_grow first before (in_any_order MayGrow first before looks) in
      summed boundaries memory start made first after numbers few grow.0 begin (in_any_order (SumsOwn (length (room_of first))) start made sums) has
      (subst (λ shares. AllZip (JoinsSums boundaries memory) shares after) grow.1 (in_any_order (JoinsSums boundaries memory) before after joins)) few_places;
  faults = λ k start own room left status here many few few_places fits told fails.
      exact_fails start k own here many few room few_places status left fits told fails;
}
