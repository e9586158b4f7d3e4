-- The lengths of segments: those of a descriptor, those of its parts, and those that cut a vector.
use Rattle.std.proofs.Common.{◌≡◌, ◌≢◌, ◌+◌, ◌≤◌, ◌∙◌, ℕ, ℤ, pos, Bool, true, false, List, [], ◌∷◌, length, map, sum, Ok, Option, Some, None, All}
use Rattle.std.proofs.Common.{sym, ap, arith, subst, unsigned_abs, nat_lt, eqb, ⊎_elim, refl}
use Rattle.std.proofs.lemmas.Bool.{ltb-false}
use Rattle.std.proofs.lemmas.Bool.Decides.{eqb_tells}
use Rattle.std.proofs.lemmas.List.{length-map}
use Rattle.std.proofs.lemmas.List.Elements.{All-cons, All-nil}
use Rattle.std.proofs.lemmas.List.Sums.{sum_by-append}
use Rattle.std.proofs.lemmas.Option.{none-some, same_Some}
use Rattle.std.specs.Int.{is_negative}
use Rattle.std.specs.Option.{option_map}
use Rattle.std.specs.Prelude.{position}
use Rattle.std.specs.Result.{result_ok}
use Rattle.cvl_base.proofs.Descriptors.{abs_pos}
use Rattle.cvl_base.proofs.Nests.{nest-fits, nest-misfits}
use Rattle.cvl_base.specs.Descriptors.{descriptor_within}
use Rattle.cvl_base.specs.declared.fault.Fault.{Fault}
use Rattle.cvl_base.specs.declared.fault.FaultNo.TheVariants as no
use Rattle.cvl_base.specs.Faults.{fault, fault_at}
use Rattle.cvl_base.specs.Gives.{fault_if, unless}
use Rattle.cvl_base.specs.Limits.{most_places}
use Rattle.cvl_base.specs.Lists.{joined}
use Rattle.cvl_base.specs.Nests.{cut_of, nest}
use Rattle.segdes.proofs.Checked.{lengths_made}
use Rattle.c_calls.specs.Calls.{lengths_of}
use Rattle.step_laws.proofs.Answered.{within}

-- the numbers of a descriptor are not too many, nor their sum too great
few_lengths : (numbers : List ℤ) (over : Bool) (negative : Option Fault) (long : Bool) (f g : Fault) (segments : List ℕ) → nat_lt most_places (length numbers) ≡ over
    → nat_lt most_places (sum (map unsigned_abs numbers)) ≡ long → fault_if over f (unless negative (fault_if long g (Ok (map unsigned_abs numbers)))) ≡ Ok segments
    → (length segments ≤ most_places) × (sum segments ≤ most_places)
few_lengths numbers true negative long f g segments is_over is_long is = absurd (none-some segments (ap result_ok is))
few_lengths numbers false (Some e) long f g segments is_over is_long is = absurd (none-some segments (ap result_ok is))
few_lengths numbers false None true f g segments is_over is_long is = absurd (none-some segments (ap result_ok is))
few_lengths numbers false None false f g segments is_over is_long is =
    let same : map unsigned_abs numbers ≡ segments = same_Some (map unsigned_abs numbers) segments (ap result_ok is) in
    let few : length numbers ≤ most_places = ltb-false most_places (length numbers) is_over in
    let small : sum (map unsigned_abs numbers) ≤ most_places = ltb-false most_places (sum (map unsigned_abs numbers)) is_long in
    (omega (arith, ap length same, length-map numbers unsigned_abs, few), subst (λ ns. sum ns ≤ most_places) same small)

pub few-of : (numbers : List ℤ) (segments : List ℕ) → lengths_of numbers ≡ Ok segments → (length segments ≤ most_places) × (sum segments ≤ most_places)
few-of numbers segments is =
    few_lengths numbers (nat_lt most_places (length numbers)) (option_map (fault_at no.NegativeLength) (position is_negative numbers))
    (nat_lt most_places (sum (map unsigned_abs numbers))) (fault no.TooLong) (fault no.TooLong) segments refl refl is

-- lengths are those of a descriptor
pub are_lengths : (ns : List ℕ) → length ns ≤ most_places → sum ns ≤ most_places → lengths_of (map pos ns) ≡ Ok ns
are_lengths ns short small =
    within (map pos ns) (descriptor_within most_places (map pos ns)) (omega (arith, short, length-map ns pos))
    ∙ lengths_made most_places (map pos ns) (ap (map pos) (sym (abs_pos ns))) (subst (λ ms. sum ms ≤ most_places) (sym (abs_pos ns)) small)
    ∙ ap Ok (abs_pos ns)

-- lengths that cut a vector add up to its length
pub nested : {X : Type 0} (lengths : List ℕ) (xs : List X) (lists : List (List X)) → nest lengths xs ≡ Ok lists → (sum lengths ≡ length xs) × (lists ≡ cut_of lengths xs)
nested lengths xs lists is =
    ⊎_elim
    (λ (fits : (eqb (sum lengths) (length xs) ≡ true) × (sum lengths ≡ length xs)).
    (fits.1, same_Some lists (cut_of lengths xs) (ap result_ok (sym is ∙ nest-fits lengths xs fits.1))))
    (λ (differs : (eqb (sum lengths) (length xs) ≡ false) × (sum lengths ≢ length xs)). absurd (none-some lists (ap result_ok (sym (nest-misfits lengths xs differs.1) ∙ is))))
    (eqb_tells (sum lengths) (length xs))

-- the lengths of no part add up to more than those of all
pub some-less : {A : Type 0} (f : A → List ℕ) (most : ℕ) (xs : List A) → sum (joined (map f xs)) ≤ most → All (λ x. sum (f x) ≤ most) xs
some-less f most [] all = All-nil (λ x. sum (f x) ≤ most)
some-less f most (x ∷ xs) all =
    let both : sum (f x) + sum (joined (map f xs)) ≤ most = subst (λ n. n ≤ most) (sum_by-append (λ n. n) (f x) (joined (map f xs))) all in
    All-cons (λ y. sum (f y) ≤ most) x xs (omega (arith, both)) (some-less f most xs (omega (arith, both)))
