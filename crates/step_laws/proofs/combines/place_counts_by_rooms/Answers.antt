use Rattle.std.proofs.Common.{length, refl}
use Rattle.step_laws.proofs.AnyOrder.{in_any_order}
use Rattle.step_laws.proofs.CombineFaults.{counted_outside}
use Rattle.step_laws.proofs.CountedInParts.{counted_all}
use Rattle.step_laws.specs.CombineParts.{room_of}
use Rattle.step_laws.specs.CombineSteps.{CountsOwn, JoinsCounts}
use Rattle.step_laws.proofs.combines.place_counts_by_rooms.Goals as goal

pub returns : goal.returns
returns g c = record {
  counted = λ boundaries memory start made before after few few_places begin first has last.
      counted_all boundaries memory start made before after few begin (in_any_order (CountsOwn (length (room_of before))) start made first) has
      (in_any_order (JoinsCounts boundaries memory) before after last) few_places;
  faults = λ k start own room left status here few few_places fits told fails.
      counted_outside start k own here few (length room) few_places room refl status left fits told fails;
}
