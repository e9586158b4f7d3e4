-- The lengths of all parts are those of one descriptor.
use Rattle.std.proofs.Common.{◌≡◌, ◌+◌, ◌≤◌, ◌++◌, ◌∙◌, ℕ, ℤ, Bool, true, false, List, [], ◌∷◌, length, sum, nat_lt, Result, Ok, Err, refl, sym, ap, arith, subst}
use Rattle.std.proofs.lemmas.Bool.{le-ltb, ltb-false}
use Rattle.std.proofs.lemmas.Option.{none-some, same_Some}
use Rattle.std.proofs.lemmas.List.Sums.{sum_by-append}
use Rattle.std.specs.List.{AllZip}
use Rattle.std.specs.Result.{result_ok}
use Rattle.call_laws.specs.InParts.{descriptor_in_two}
use Rattle.cvl_base.proofs.Lists.{sum-cons}
use Rattle.cvl_base.specs.declared.fault.Fault.{Fault}
use Rattle.cvl_base.specs.declared.fault.FaultNo.TheVariants as no
use Rattle.cvl_base.specs.Descriptors.{descriptor_within}
use Rattle.cvl_base.specs.Faults.{fault}
use Rattle.cvl_base.specs.Gives.{◌>>=◌, fault_if}
use Rattle.cvl_base.specs.Limits.{most_places}
use Rattle.part_records.specs.Totals.{total_within}
use Rattle.step_laws.proofs.Answered.{is_given}
use Rattle.step_laws.specs.LengthSteps.{Measures}
use Rattle.step_laws.specs.Parts.{Part, elements_of, told_of}
use Rattle.c_calls.specs.Calls.{by_segments}

-- numbers that are lengths with this sum
abbrev pub Are : List ℤ → ℕ → Type 0
Are numbers total = (lengths : List ℕ) × (descriptor_within most_places numbers ≡ Ok lengths) × (sum lengths ≡ total)

of_lengths : (made : Result (List ℕ) Fault) (total : ℕ) → (made >>= λ lengths. Ok (sum lengths)) ≡ Ok total
    → (lengths : List ℕ) × (made ≡ Ok lengths) × (sum lengths ≡ total)
of_lengths (Ok lengths) total is = (lengths, refl, same_Some (sum lengths) total (ap result_ok is))
of_lengths (Err f) total is = absurd (none-some total (ap result_ok is))

in_limit : (b : Bool) (f : Fault) (made : Result (List ℕ) Fault) (total : ℕ) → (fault_if b f made >>= λ lengths. Ok (sum lengths)) ≡ Ok total
    → (lengths : List ℕ) × (made ≡ Ok lengths) × (sum lengths ≡ total)
in_limit true f made total is = absurd (none-some total (ap result_ok is))
in_limit false f made total is = of_lengths made total is

-- what a part told is the sum of its lengths
pub measured : (own left : Part ℤ ℕ ℤ) → Measures own left → Are own.elements left.told
measured own left does =
    in_limit (nat_lt most_places (length own.elements)) (fault no.TooLong) (descriptor_within most_places own.elements) left.told
    (is_given (by_segments own.elements (λ lengths. Ok (sum lengths))) own.told left.told does.0)

sums_to : (b : Bool) (total now : ℕ) → nat_lt most_places total ≡ b → fault_if b (fault no.TooLong) (Ok total) ≡ Ok now → (total ≤ most_places) × (total ≡ now)
sums_to true total now over is = absurd (none-some now (ap result_ok is))
sums_to false total now over is = (ltb-false most_places total over, same_Some total now (ap result_ok is))

-- a total that is told is that of the parts, and a vector may be so long
pub in_total : (sizes : List ℕ) (now : ℕ) → total_within sizes ≡ Ok now → (sum sizes ≤ most_places) × (sum sizes ≡ now)
in_total sizes now is = sums_to (nat_lt most_places (sum sizes)) (sum sizes) now refl is

-- the lengths of two vectors are those of both, if these are not too long together
both : (law : (most : ℕ) (lengths more : List ℤ) → descriptor_within most (lengths ++ more)
    ≡ descriptor_in_two most (length lengths) (descriptor_within most lengths) (descriptor_within most more))
    → (xs ys : List ℤ) (m n : ℕ) → Are xs m → Are ys n → m + n ≤ most_places → Are (xs ++ ys) (m + n)
both law xs ys m n first second few =
    let total : sum first.0 + sum second.0 ≡ m + n = (λ i. first.2 i + second.2 i) in
    let made : descriptor_within most_places (xs ++ ys) ≡ descriptor_in_two most_places (length xs) (Ok first.0) (Ok second.0) =
    law most_places xs ys ∙ (λ i. descriptor_in_two most_places (length xs) (first.1 i) (second.1 i)) in
    let within : nat_lt most_places (sum first.0 + sum second.0) ≡ false = le-ltb most_places (sum first.0 + sum second.0) (omega (arith, total, few)) in (
      first.0 ++ second.0,
      made ∙ ap (λ b. fault_if b (fault no.TooLong) (Ok (first.0 ++ second.0))) within,
      sum_by-append (λ n. n) first.0 second.0 ∙ total,
    )

pub together : (law : (most : ℕ) (lengths more : List ℤ) → descriptor_within most (lengths ++ more)
    ≡ descriptor_in_two most (length lengths) (descriptor_within most lengths) (descriptor_within most more))
    → (start left : List (Part ℤ ℕ ℤ)) → AllZip Measures start left → sum (told_of left) ≤ most_places → Are (elements_of start) (sum (told_of left))
together law [] [] zipped few = ([], refl, refl)
together law [] (y ∷ ys) zipped few = absurd zipped
together law (x ∷ xs) [] zipped few = absurd zipped
together law (x ∷ xs) (y ∷ ys) zipped few =
    let sums = sum-cons y.told (told_of ys) in
    let all : y.told + sum (told_of ys) ≤ most_places = omega (arith, sums, few) in
    let others = together law xs ys zipped.1 (omega (arith, all)) in
    subst (Are (elements_of (x ∷ xs))) (sym sums) (both law x.elements (elements_of xs) y.told (sum (told_of ys)) (measured x y zipped.0) others all)
