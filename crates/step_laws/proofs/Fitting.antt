-- What a part's look at its checked sums says.
use Rattle.std.proofs.Common.{◌≡◌, ◌+◌, ◌<◌, ◌≤◌, ◌∙◌, ◌∷◌, ◌+ℤ◌, ℕ, ℤ, List, [], length, map, Ok, Err, refl, sym, ap, arith, subst, ⊎_elim}
use Rattle.std.proofs.lemmas.Bool.{cases_lt}
use Rattle.std.proofs.lemmas.Int.{int_wrap-add_left}
use Rattle.std.specs.Int.{w32}
use Rattle.cvl_base.specs.declared.fault.FaultNo.TheVariants.{Overflow}
use Rattle.cvl_base.specs.Faults.{fault_at}
use Rattle.cvl_base.specs.Folds.{scan_of}
use Rattle.cvl_base.specs.Integers.{sum_of, wrap}
use Rattle.cvl_base.specs.Limits.{most_places}
use Rattle.operators.proofs.FoldLaws.{scan_of-cons}
use Rattle.scan_walks.proofs.Fitted.{none_overflows, overflows}
use Rattle.scan_walks.specs.Fronts.{fitting_front}
use Rattle.part_calls.specs.Limits.{few_enough}
use Rattle.part_calls.specs.Sums.{checked_scan_after}
use Rattle.c_calls.specs.Told.{RoomTold, done}
use Rattle.c_calls.specs.declared.status.CvlStatus.{CvlStatus}
use Rattle.step_laws.specs.Looks.{FindsNone}
use Rattle.step_laws.proofs.Answered.{within}

-- the scan that wraps is the wrapped scan
pub wrapped : (before : ℤ) (xs : List ℤ) → scan_of sum_of (wrap before) xs ≡ map wrap (scan_of ◌+ℤ◌ before xs)
wrapped before [] = refl
wrapped before (x ∷ xs) = cc (scan_of-cons sum_of (wrap before) x xs, int_wrap-add_left w32 before x, wrapped (before +ℤ x) xs, scan_of-cons ◌+ℤ◌ before x xs)

-- the sums of a part fit, and are those that wrap
abbrev pub FitsAfter : ℤ → List ℤ → Type 0
FitsAfter before xs = checked_scan_after before xs ≡ Ok (scan_of sum_of (wrap before) xs)

-- a sum that does not fit is a fault of its own number
pub no-overflow : (place : ℕ) (status : CvlStatus) → RoomTold {X = ℤ} (Err (fault_at Overflow place)) status [] [] → FindsNone status → ⊥
no-overflow place status told finds =
    ⊎_elim (λ (is : status ≡ done). let number : 18 ≡ 0 = sym (ap (λ (s : CvlStatus). s.number) told.0) ∙ ap (λ (s : CvlStatus). s.number) is in omega (arith, number))
    (λ (is : status.number ≡ 7). let number : 18 ≡ 7 = sym (ap (λ (s : CvlStatus). s.number) told.0) ∙ is in omega (arith, number))
    finds

-- what a look finds of a part that is not too long
pub looked_fits : (before : ℤ) (xs : List ℤ) (status : CvlStatus) → length xs ≤ most_places
    → RoomTold (few_enough (length xs) (checked_scan_after before xs)) status [] [] → FindsNone status → FitsAfter before xs
looked_fits before xs status few told finds =
    let zs = scan_of ◌+ℤ◌ before xs in
    let front = fitting_front zs in
    let some : RoomTold (checked_scan_after before xs) status [] [] = subst (λ m. RoomTold m status [] []) (within xs (checked_scan_after before xs) few) told in
    ⊎_elim
    (λ (lt : front < length zs). absurd (no-overflow (0 + front) status (subst (λ m. RoomTold m status [] []) (overflows 0 zs lt) some) finds))
    (λ (ge : length zs ≤ front). none_overflows front zs refl (scan_of sum_of (wrap before) xs) ge (wrapped before xs))
    (cases_lt front (length zs))
