use Rattle.std.proofs.Common.{length}
use Rattle.step_laws.proofs.AnyOrder.{in_any_order}
use Rattle.step_laws.proofs.CheckedInParts.{checked_all}
use Rattle.step_laws.proofs.OverflowFaults.{rooms_overflow}
use Rattle.step_laws.proofs.SumFaults.{checked_fails}
use Rattle.step_laws.specs.CombineParts.{room_of}
use Rattle.step_laws.specs.CombineSteps.{JoinsChecked, Narrows, SumsOwn}
use Rattle.step_laws.proofs.combines.checked_combines_by_rooms.Goals as goal

pub returns : goal.returns
returns c = record {
  summed = λ boundaries memory start made before summed after numbers was few few_places begin sums has joins narrows.
      checked_all boundaries memory start made before summed after numbers was few few_places begin (in_any_order (SumsOwn (length (room_of before))) start made sums) has
      (in_any_order (JoinsChecked boundaries memory) before summed joins) (in_any_order Narrows summed after narrows);
  faults = λ k start own room left status here many few few_places fits told fails.
      checked_fails start k own here many few room few_places status left fits told fails;
  overflows = λ boundaries memory start made before k own status numbers was few few_places begin sums has here as_many told fails.
      rooms_overflow boundaries memory start made before numbers was few few_places begin (in_any_order (SumsOwn (length (room_of before))) start made sums) has k own here as_many
      status told fails;
}
