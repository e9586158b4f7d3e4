use Rattle.step_laws.proofs.AnyOrder.{in_any_order}
use Rattle.step_laws.proofs.PlaceByPlace.{all_made, look-fails, looking}
use Rattle.step_laws.specs.PlaceSteps.{FillsAll, FillsPlaces, LooksAtPlaces}
use Rattle.step_laws.proofs.places.places_by_steps.Goals as goal

pub returns : goal.returns
returns g c = record {
  looking = λ number value start looked end other few rooms first last.
      looking number value start looked end other few rooms (in_any_order (LooksAtPlaces number value) start looked first) (in_any_order (FillsPlaces number value) looked end last);
  all = λ value start end few rooms first. all_made value start end few rooms (in_any_order (FillsAll value) start end first);
  faults = λ number value start k own few here fails. look-fails number value start few k own here fails;
}
