-- If a part that adds up its lengths finds a fault, or all parts are too long together, the whole descriptor has a fault.
use Rattle.std.proofs.Common.{◌≡◌, ◌≢◌, ◌≤◌, ◌∙◌, ℕ, ℤ, List, map, slice_get, sum, Some, Ok, ap, subst, sym, unsigned_abs}
use Rattle.std.proofs.lemmas.Bool.{le-ltb}
use Rattle.std.specs.List.{AllZip}
use Rattle.cvl_base.specs.declared.fault.FaultNo.TheVariants as no
use Rattle.cvl_base.specs.Faults.{fault}
use Rattle.cvl_base.specs.Gives.{◌>>=◌, fault_if}
use Rattle.cvl_base.specs.Limits.{most_places}
use Rattle.part_records.specs.Totals.{total_within}
use Rattle.call_laws.proofs.TwoParts.{from_value}
use Rattle.step_laws.proofs.BySegments.{each-lengths, few, own-sizes, sizes, sum-parts}
use Rattle.step_laws.proofs.CutVectors.{told-totals}
use Rattle.step_laws.proofs.PartFaults.{HasFault, no-value, of_part}
use Rattle.step_laws.specs.LengthSteps.{Measures}
use Rattle.step_laws.specs.Parts.{Part, elements_of, told_of}
use Rattle.c_calls.specs.Calls.{by_segments, lengths_of}
use Rattle.c_calls.specs.Told.{Told, done}
use Rattle.c_calls.specs.declared.status.CvlStatus.{CvlStatus}

-- a part that finds a fault finds one of the whole
pub measure-fails : (start : List (Part ℤ ℕ ℤ)) (k : ℕ) (own : Part ℤ ℕ ℤ) → slice_get start k ≡ Some own → (status : CvlStatus) (left : ℕ)
    → Told (by_segments own.elements (λ lengths. Ok (sum lengths))) status own.told left → status ≢ done → HasFault (by_segments (elements_of start) (λ lengths. Ok (sum lengths)))
measure-fails start k own here status left told fails =
    no-value (by_segments (elements_of start) (λ lengths. Ok (sum lengths)))
    (λ total is.
    let segments = from_value (lengths_of (elements_of start)) (λ lengths. Ok (sum lengths)) total is in
    let numbers = λ (p : Part ℤ ℕ ℤ). p.elements in
    let each = each-lengths numbers start segments.0 segments.1 in
    let own_is = of_part start k own here (λ p. lengths_of p.elements ≡ Ok (sizes numbers p)) each in
    let known : Told (Ok (sum (sizes numbers own))) status own.told left =
    subst (λ m. Told m status own.told left) (ap (λ r. r >>= λ lengths. Ok (sum lengths)) own_is) told in
    fails known.0)

-- parts that are too long together have a total that is a fault of the whole
pub total-fails : (start measured : List (Part ℤ ℕ ℤ)) → AllZip Measures start measured → (status : CvlStatus) (before now : ℕ)
    → Told (total_within (told_of measured)) status before now → status ≢ done → HasFault (by_segments (elements_of start) (λ lengths. Ok (sum lengths)))
total-fails start measured first status before now told fails =
    no-value (by_segments (elements_of start) (λ lengths. Ok (sum lengths)))
    (λ total is.
    let segments = from_value (lengths_of (elements_of start)) (λ lengths. Ok (sum lengths)) total is in
    let numbers = λ (p : Part ℤ ℕ ℤ). p.elements in
    let all = few (elements_of start) segments.0 segments.1 in
    let same : sum (map unsigned_abs (elements_of start)) ≡ sum (told_of measured) =
    ap sum (sym all.same ∙ own-sizes numbers start segments.0 segments.1) ∙ sum-parts (sizes numbers) start ∙ ap sum (sym (told-totals start measured first)) in
    let given : total_within (told_of measured) ≡ Ok (sum (told_of measured)) =
    ap (λ b. fault_if b (fault no.TooLong) (Ok (sum (told_of measured))))
    (le-ltb most_places (sum (told_of measured)) (subst (λ n. n ≤ most_places) same all.total)) in
    let known : Told (Ok (sum (told_of measured))) status before now = subst (λ m. Told m status before now) given told in
    fails known.0)
