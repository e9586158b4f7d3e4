use Rattle.std.proofs.Common.{◌≡◌, ◌∙◌, ◌∷◌, [], length, length-set, map-id, slice_set, get_or, refl, sym, ap, subst, Ok}
use Rattle.call_laws.proofs.ElementPlaces.{replace-inside}
use Rattle.c_calls.specs.Told.{RoomTold, done}
use Rattle.step_laws.specs.Parts.{elements_of, room_of}
use Rattle.step_laws.specs.PlaceSteps.{FillsAll}
use Rattle.step_laws.proofs.AnyOrder.{in_any_order}
use Rattle.step_laws.proofs.Answered.{is_done, tells_done}
use Rattle.step_laws.proofs.Parted.{as-long}
use Rattle.step_laws.proofs.PlaceByPlace.{filled}
use Rattle.step_laws.proofs.places.replaces_by_steps.Goals as goal

pub returns : goal.returns
returns g c = λ start end k value before now status within few rooms copies here told.
    let xs = elements_of start in
    let copied : room_of end ≡ xs = filled (λ x. x) start end few rooms (in_any_order (FillsAll (λ x. x)) start end copies) ∙ map-id xs in
    let written : now ∷ [] ≡ value ∷ [] = is_done (value ∷ []) (before ∷ []) (now ∷ []) status refl told in
    let same : now ≡ value = ap (λ ys. get_or ys 0 value) written in
    let both : slice_set (room_of end) k now ≡ slice_set xs k value = ap (λ zs. slice_set zs k now) copied ∙ ap (slice_set xs k) same in
    let long : length (slice_set xs k value) ≡ length (room_of start) = length-set xs k value ∙ sym (as-long (λ p. p.elements) (λ p. p.room) start rooms) in
    subst (λ m. RoomTold m done (room_of start) (slice_set (room_of end) k now)) (sym (replace-inside xs k value within))
    (subst (λ zs. RoomTold (Ok (slice_set xs k value)) done (room_of start) zs) (sym both) (tells_done (slice_set xs k value) (room_of start) long))
