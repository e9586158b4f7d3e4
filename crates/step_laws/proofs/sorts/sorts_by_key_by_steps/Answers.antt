use Rattle.std.proofs.Common.{refl}
use Rattle.orders.specs.SortsByKey.{ascending, descending, inverted}
use Rattle.stable_sorts.specs.Directions.{ascending_turn, descending_turn}
use Rattle.step_laws.proofs.SortedBySteps.{sorted_with_values}
use Rattle.step_laws.proofs.TurnedKeys.{fits_inverted, turned-below, turned_digit, turned_is}
use Rattle.step_laws.proofs.sorts.sorts_by_key_by_steps.Goals as goal

pub returns : goal.returns
returns c = record {
  ascending = λ start bits keyed placed moved last end numbers few found same rooms first passes is last_rooms reads.
      sorted_with_values start bits numbers few found ascending (λ key. key) ascending_turn (λ key fit. fit) (λ pass d. d) (λ pass d below. below)
      (λ pass below key fit. refl) keyed placed moved last end same rooms first passes is last_rooms reads;
  descending = λ start bits keyed placed moved last end numbers few found same rooms first passes is last_rooms reads.
      sorted_with_values start bits numbers few found descending inverted descending_turn fits_inverted turned_digit (λ pass d below. turned-below pass d)
      turned_is keyed placed moved last end same rooms first passes is last_rooms reads;
}
