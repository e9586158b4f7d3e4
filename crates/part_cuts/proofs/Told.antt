-- Places of parts whose lengths some numbers stand for.
use Rattle.std.proofs.Common.{◌≡◌, ◌≢◌, ◌∙◌, ◌+◌, ◌==◌, ◌&&◌, ◌<◌, ◌≤◌, ℕ, Bool, true, false, not, List, [], ◌∷◌, ◌++◌, length, map, sum, take, get_or, Result, Ok, Err, refl, sym, ap, arith}
use Rattle.std.proofs.Common.{length-append, set, take_all}
use Rattle.std.proofs.lemmas.List.{length-map, map-id, take_more_set}
use Rattle.std.proofs.Math.ListN.{length-set}
use Rattle.std.proofs.lemmas.List.Folds.{list_all_more}
use Rattle.std.proofs.lemmas.List.Sums.{sum-map, sum_by_more, sum_by_more_le}
use Rattle.std.specs.List.{list_all}
use Rattle.cvl_base.proofs.Rooms.{differs}
use Rattle.cvl_base.specs.declared.fault.Fault.{Fault}
use Rattle.cvl_base.specs.declared.fault.FaultNo.TheVariants as no
use Rattle.cvl_base.specs.Faults.{fault}
use Rattle.cvl_base.specs.Folds.{scan_of}
use Rattle.cvl_base.specs.Gives.{fault_if}
use Rattle.cvl_base.specs.Rooms.{in_room}
use Rattle.operators.proofs.FoldLaws.{length-scan_of}
use Rattle.part_cuts.specs.Places.{exact_places_by, exact_places_of, places_of}

-- there is one place more than parts
pub length-places_of : (lengths : List ℕ) → length (places_of lengths) ≡ length lengths + 1
length-places_of lengths = omega (arith, length-append (scan_of ◌+◌ 0 lengths) (sum lengths ∷ []), length-scan_of ◌+◌ 0 lengths)

-- a list under two tests
abbrev tested : {X : Type 0} → Bool → Bool → List X → Result (List X) Fault
tested a b xs = fault_if (not a) (fault no.LengthMismatch) (fault_if (not b) (fault no.LengthMismatch) (Ok xs))

both : {X : Type 0} (a b : Bool) (xs : List X) → (a && b) ≡ true → tested a b xs ≡ Ok xs
both true true xs is = refl
both true false xs is = absurd cc
both false b xs is = absurd cc

not_both : {X : Type 0} (a b : Bool) (xs : List X) → (a && b) ≡ false → tested a b xs ≡ Err (fault no.LengthMismatch)
not_both true true xs is = absurd cc
not_both true false xs is = refl
not_both false b xs is = refl

no_room : {X : Type 0} (a b : Bool) (xs : List X) (room : ℕ) → length xs ≢ room → in_room room (tested a b xs) ≡ Err (fault no.LengthMismatch)
no_room true true xs room other = differs room xs other
no_room true false xs room other = refl
no_room false b xs room other = refl

module _ {X : Type 0} (is_length : X → Bool) (length_of : X → ℕ) (told : List X) (len : ℕ) where
  pub exact : (list_all is_length told && (sum (map length_of told) == len)) ≡ true → exact_places_by is_length length_of told len ≡ Ok (places_of (map length_of told))
  exact is = both (list_all is_length told) (sum (map length_of told) == len) (places_of (map length_of told)) is

  pub inexact : (list_all is_length told && (sum (map length_of told) == len)) ≡ false → exact_places_by is_length length_of told len ≡ Err (fault no.LengthMismatch)
  inexact is = not_both (list_all is_length told) (sum (map length_of told) == len) (places_of (map length_of told)) is

  pub crowded : (room : ℕ) → room ≢ length told + 1 → in_room room (exact_places_by is_length length_of told len) ≡ Err (fault no.LengthMismatch)
  crowded room other =
      no_room (list_all is_length told) (sum (map length_of told) == len) (places_of (map length_of told)) room
      (λ same. other (omega (arith, same, length-places_of (map length_of told), length-map told length_of)))

module _ {X : Type 0} (length_of : X → ℕ) (told : List X) (i : ℕ) (d x : X) (within : i < length told) (is : x ≡ get_or told i d) where
  -- the sum of one length more
  pub sum_more : sum (map length_of (take (i + 1) told)) ≡ sum (map length_of (take i told)) + length_of x
  sum_more =
      sum-map length_of (take (i + 1) told) ∙ sum_by_more length_of told i d within
      ∙ ap (λ n. n + length_of (get_or told i d)) (sym (sum-map length_of (take i told)))
      ∙ ap (λ y. sum (map length_of (take i told)) + length_of y) (sym is)

  pub sum_within : sum (map length_of (take i told)) + length_of x ≤ sum (map length_of told)
  sum_within = omega (arith, sum_by_more_le length_of told i d within, sum-map length_of (take i told), sum-map length_of told, ap length_of is)

-- one element more that passes
pub all_more : {X : Type 0} (test : X → Bool) (xs : List X) (i : ℕ) (d x : X) → i < length xs → x ≡ get_or xs i d → list_all test (take i xs) ≡ true → test x ≡ true
    → list_all test (take (i + 1) xs) ≡ true
all_more test xs i d x within is before here =
    list_all_more test xs i d within ∙ ap (λ b. b && test (get_or xs i d)) before ∙ ap test (sym is) ∙ here

-- what stands behind the first n of n + 1 items
pub last_set : {X : Type 0} (xs : List X) (k n : ℕ) (y : X) → k ≡ n → length xs ≡ n + 1 → set xs n y ≡ take k xs ++ y ∷ []
last_set xs k n y is long =
    sym (take_all (n + 1) (set xs n y) (omega (arith, long, length-set xs n y))) ∙ take_more_set xs n y (omega (arith, long))
    ∙ ap (λ m. take m xs ++ y ∷ []) (sym is)

every : {X : Type 0} (xs : List X) → list_all (λ x. true) xs ≡ true
every [] = refl
every (x ∷ xs) = every xs

-- lengths that stand for themselves
pub as_they_are : (sizes : List ℕ) (len : ℕ) → exact_places_by (λ n. true) (λ n. n) sizes len ≡ exact_places_of sizes len
as_they_are sizes len =
    ap (λ b. fault_if (not b) (fault no.LengthMismatch) (exact_places_of (map (λ n. n) sizes) len)) (every sizes)
    ∙ ap (λ ns. exact_places_of ns len) (map-id sizes)
