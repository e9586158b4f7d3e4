-- Calls by steps whose result has at each place what is made of the operands there.
use Rattle.std.proofs.Common.{◌≡◌, ◌≢◌, ◌+◌, ◌++◌, ◌≤◌, ◌∙◌, ◌⊎◌, ℕ, List, [], ◌∷◌, length, map, inl, inr, slice_get, Option, Some, None, Result, Ok, Err, refl, sym, ap, subst, All, ⊎_elim}
use mathlib.Core.List.{map-map}
use Rattle.std.proofs.lemmas.List.{length-map, map-append}
use Rattle.std.specs.List.{AllZip}
use Rattle.std.specs.Option.{ok_or}
use Rattle.cvl_base.specs.declared.fault.Fault.{Fault}
use Rattle.cvl_base.specs.declared.fault.FaultNo.{FaultNo}
use Rattle.cvl_base.specs.Elementwise.{values_from}
use Rattle.cvl_base.specs.Faults.{fault_at, number_of}
use Rattle.cvl_base.specs.Gives.{◌>>=◌}
use Rattle.cvl_base.specs.Limits.{most_places}
use Rattle.cvl_base.specs.Lists.{joined}
use Rattle.c_calls.specs.Calls.{in_limit}
use Rattle.c_calls.specs.Told.{RoomTold, done}
use Rattle.c_calls.specs.declared.status.CvlStatus.{CvlStatus}
use Rattle.step_laws.specs.Looks.{Fails, FindsNone}
use Rattle.step_laws.specs.Parts.{HaveRooms, Part, elements_of, room_of}
use Rattle.step_laws.specs.PlaceSteps.{FillsAll, FillsPlaces, LooksAtPlaces}
use Rattle.step_laws.proofs.Answered.{is_done, numbered, tells_done, within}
use Rattle.step_laws.proofs.ByElement.{made-elements}
use Rattle.step_laws.proofs.PartFaults.{HasFault, failed, of_part, whole-failed}
use Rattle.step_laws.proofs.Parted.{alike, alike_where, as-long, each-also, each-where, keeps, some-fewer}
use Rattle.step_laws.proofs.Valued.{joined-values, long-zipped}
use Rattle.step_laws.proofs.ReadTexts.{values-long}

pub joined-map : {X Y : Type 0} (f : X → Y) (lists : List (List X)) → map f (joined lists) ≡ joined (map (map f) lists)
joined-map f [] = refl
joined-map f (xs ∷ lists) = map-append f xs (joined lists) ∙ ap (λ ys. map f xs ++ ys) (joined-map f lists)

module _ {X Y : Type 0} (number : FaultNo) (value : X → Option Y) where
  abbrev values : List X → Result (List Y) Fault
  values xs = values_from number 0 (map value xs)

  -- there are as many values as places
  as-many : (place : ℕ) (xs : List X) (ys : List Y) → values_from number place (map value xs) ≡ Ok ys → length ys ≡ length xs
  as-many place xs ys is = values-long number place (map value xs) ys is ∙ length-map xs value

  -- each has a value, or the fault has the number
  abbrev Answers : Result (List Y) Fault → Type 0
  Answers r = ((ys : List Y) × (r ≡ Ok ys)) ⊎ ((f : Fault) × (r ≡ Err f) × (f.number ≡ number))

  answers_at : (place : ℕ) (v : Option Y) (rest : Result (List Y) Fault) → Answers rest
      → Answers (ok_or v (fault_at number place) >>= λ y. rest >>= λ ys. Ok (y ∷ ys))
  answers_at place None rest is = inr (fault_at number place, refl, refl)
  answers_at place (Some y) rest is =
      ⊎_elim
      (λ (ok : (ys : List Y) × (rest ≡ Ok ys)). inl (y ∷ ok.0, ap (λ r. r >>= λ ys. Ok (y ∷ ys)) ok.1))
      (λ (err : (f : Fault) × (rest ≡ Err f) × (f.number ≡ number)). inr (err.0, ap (λ r. r >>= λ ys. Ok (y ∷ ys)) err.1, err.2))
      is

  answers : (place : ℕ) (vs : List (Option Y)) → Answers (values_from number place vs)
  answers place [] = inl ([], refl)
  answers place (v ∷ vs) = answers_at place v (values_from number (place + 1) vs) (answers (place + 1) vs)

  -- a look that finds no fault, of a part that is not too long
  pub looked-values : number_of number ≢ 7 → (xs : List X) (status : CvlStatus) → length xs ≤ most_places
      → RoomTold (in_limit xs (values xs)) status [] [] → FindsNone status → (ys : List Y) × (values xs ≡ Ok ys) × (length ys ≡ length xs)
  looked-values other xs status few told finds =
      let some : RoomTold (values xs) status [] [] = subst (λ m. RoomTold m status [] []) (within xs (values xs) few) told in
      ⊎_elim
      (λ (ok : (ys : List Y) × (values xs ≡ Ok ys)). (ok.0, ok.1, as-many 0 xs ok.0 ok.1))
      (λ (err : (f : Fault) × (values xs ≡ Err f) × (f.number ≡ number)).
      let at : RoomTold {X = Y} (Err err.0) status [] [] = subst (λ m. RoomTold m status [] []) err.1 some in
      let is : number_of number ≡ status.number = sym (ap number_of err.2) ∙ sym (ap (λ (s : CvlStatus). s.number) at.0) in
      absurd (⊎_elim (λ (d : status ≡ done). numbered number (is ∙ ap (λ (s : CvlStatus). s.number) d)) (λ (room : status.number ≡ 7). other (is ∙ room)) finds))
      (answers 0 (map value xs))

module _ {X R Y : Type 0} where
  -- a part has room for its places, of which there are not too many
  abbrev Fits : Part X R Y → Type 0
  Fits p = (length p.room ≡ length p.elements) × (length p.elements ≤ most_places)

  fits : (start : List (Part X R Y)) → length (elements_of start) ≤ most_places → HaveRooms start → All Fits start
  fits start few rooms = let each = some-fewer (λ (p : Part X R Y). p.elements) most_places start few in λ k d lt. (rooms k d lt, each k d lt)

  -- each part made the values of its places, which it found before
  pub looking : (number : FaultNo) (value : X → Option Y) (start looked end : List (Part X R Y)) → number_of number ≢ 7
      → length (elements_of start) ≤ most_places → HaveRooms start → AllZip (LooksAtPlaces number value) start looked → AllZip (FillsPlaces number value) looked end
      → RoomTold (in_limit (elements_of start) (values_from number 0 (map value (elements_of start)))) done (room_of start) (room_of end)
  looking number value start looked end other few rooms looks fills =
      let call : List X → Result (List Y) Fault = λ xs. values_from number 0 (map value xs) in
      let seen : All (λ p. Fits p × ((ys : List Y) × (call p.elements ≡ Ok ys) × (length ys ≡ length p.elements))) looked =
      keeps (LooksAtPlaces number value) Fits (λ p. Fits p × ((ys : List Y) × (call p.elements ≡ Ok ys) × (length ys ≡ length p.elements)))
      (λ own left does fit.
      subst (λ (p : Part X R Y). Fits p × ((ys : List Y) × (call p.elements ≡ Ok ys) × (length ys ≡ length p.elements))) (sym does.1)
      (fit, looked-values number value other own.elements does.0.0 fit.1 does.0.1 does.0.2))
      start looked looks (fits start few rooms) in
      let made : AllZip (λ own left. (call own.elements ≡ Ok left.room) × (length left.room ≡ length own.room)) looked end =
      each-where (FillsPlaces number value) (λ own left. (call own.elements ≡ Ok left.room) × (length left.room ≡ length own.room))
      (λ p. Fits p × ((ys : List Y) × (call p.elements ≡ Ok ys) × (length ys ≡ length p.elements)))
      (λ own left does holds.
      let now : left.room ≡ holds.1.0 =
      is_done holds.1.0 own.room left.room does.0.0 (holds.1.2 ∙ sym holds.0.0)
      (subst (λ m. RoomTold m does.0.0 own.room left.room) (within own.elements (call own.elements) holds.0.1 ∙ holds.1.1) does.0.1) in
      (holds.1.1 ∙ ap Ok (sym now), ap length now ∙ holds.1.2 ∙ sym holds.0.0))
      looked end fills seen in
      let elements = alike (LooksAtPlaces number value) (λ p. p.elements) (λ p. p.elements) (λ own left does. ap (λ (p : Part X R Y). p.elements) does.1) start looked looks in
      let roomed = alike (LooksAtPlaces number value) (λ p. p.room) (λ p. p.room) (λ own left does. ap (λ (p : Part X R Y). p.room) does.1) start looked looks in
      let whole : call (elements_of start) ≡ Ok (room_of end) =
      ap (λ xs. call (joined xs)) (sym elements)
      ∙ joined-values number value (λ p. p.elements) (λ p. p.room) looked end (each-also _ (λ own left. call own.elements ≡ Ok left.room) (λ own left both. both.0) looked end made) in
      let long : length (room_of end) ≡ length (room_of start) =
      long-zipped (λ p. p.room) (λ p. p.room) looked end (each-also _ (λ own left. length left.room ≡ length own.room) (λ own left both. both.1) looked end made)
      ∙ ap (λ r. length (joined r)) roomed in
      subst (λ m. RoomTold m done (room_of start) (room_of end)) (sym (within (elements_of start) (call (elements_of start)) few ∙ whole)) (tells_done (room_of end) (room_of start) long)

  -- a part that finds a fault finds one of the whole
  pub look-fails : (number : FaultNo) (value : X → Option Y) (start : List (Part X R Y)) → length (elements_of start) ≤ most_places → (k : ℕ) (own : Part X R Y)
      → slice_get start k ≡ Some own → Fails (in_limit own.elements (values_from number 0 (map value own.elements)))
      → HasFault (in_limit (elements_of start) (values_from number 0 (map value (elements_of start))))
  look-fails number value start few k own here fails =
      let call : List X → Result (List Y) Fault = λ xs. values_from number 0 (map value xs) in
      let fails_whole : HasFault (call (elements_of start)) =
      whole-failed (call (elements_of start)) (λ (p : Part X R Y). call p.elements) start k own (made-elements number value (λ (p : Part X R Y). p.elements) start) here
      (λ ys is.
      let few_own = of_part start k own here (λ (p : Part X R Y). length p.elements ≤ most_places) (some-fewer (λ (p : Part X R Y). p.elements) most_places start few) in
      failed (in_limit own.elements (call own.elements)) fails ys (within own.elements (call own.elements) few_own ∙ is)) in
      (fails_whole.0, within (elements_of start) (call (elements_of start)) few ∙ fails_whole.1)

  -- what the parts made where each place has a value
  pub filled : (value : X → Y) (start end : List (Part X R Y)) → length (elements_of start) ≤ most_places → HaveRooms start → AllZip (FillsAll value) start end
      → room_of end ≡ map value (elements_of start)
  filled value start end few rooms fills =
      let written : map (λ p. p.room) end ≡ map (λ p. map value p.elements) start =
      alike_where (FillsAll value) Fits (λ p. map value p.elements) (λ p. p.room)
      (λ own left does fit. is_done (map value own.elements) own.room left.room does.0.0 (length-map own.elements value ∙ sym fit.0)
      (subst (λ m. RoomTold m does.0.0 own.room left.room) (within own.elements (Ok (map value own.elements)) fit.1) does.0.1))
      start end fills (fits start few rooms) in
      ap joined (written ∙ sym (map-map (map value) (λ (p : Part X R Y). p.elements) start)) ∙ sym (joined-map value (map (λ p. p.elements) start))

  pub all_made : (value : X → Y) (start end : List (Part X R Y)) → length (elements_of start) ≤ most_places → HaveRooms start → AllZip (FillsAll value) start end
      → RoomTold (in_limit (elements_of start) (Ok (map value (elements_of start)))) done (room_of start) (room_of end)
  all_made value start end few rooms fills =
      let xs = elements_of start in
      let long : length (map value xs) ≡ length (room_of start) = length-map xs value ∙ sym (as-long (λ p. p.elements) (λ p. p.room) start rooms) in
      subst (λ m. RoomTold m done (room_of start) (room_of end)) (sym (within xs (Ok (map value xs)) few))
      (subst (λ zs. RoomTold (Ok (map value xs)) done (room_of start) zs) (sym (filled value start end few rooms fills)) (tells_done (map value xs) (room_of start) long))
