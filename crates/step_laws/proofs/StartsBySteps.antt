-- Where segments start, by the steps that add up shares of their lengths.
use Rattle.std.proofs.Common.{◌≡◌, ◌∙◌, ◌+◌, ◌-◌, ◌≤◌, ℕ, ℤ, zero, suc, List, [], ◌∷◌, length, map, sum, take, drop, slice_range, unsigned_abs, Ok}
use Rattle.std.proofs.Common.{refl, sym, ap, arith, subst}
use mathlib.Core.List.{map-map}
use Rattle.std.proofs.lemmas.List.{drop-map, length-map, take-map}
use Rattle.std.specs.List.{AllZip, range_with_len}
use Rattle.cvl_base.proofs.Lists.{sum-cons}
use Rattle.part_cuts.specs.Evenly.{even_place, even_places}
use Rattle.part_cuts.specs.Places.{exact_places_of, places_of}
use Rattle.part_cuts.specs.Starts.{start_of, starts_at}
use Rattle.c_calls.specs.Calls.{lengths_of}
use Rattle.c_calls.specs.Told.{RoomTold, done}
use Rattle.step_laws.proofs.Answered.{fills}
use Rattle.step_laws.proofs.BySegments.{sizes-are}
use Rattle.step_laws.proofs.CutBounds.{all-before, start-on}
use Rattle.step_laws.proofs.CutPlaces.{by-ends, exact-given}
use Rattle.step_laws.proofs.CutVectors.{told-totals, totals}
use Rattle.step_laws.proofs.EvenPlaces.{first-place, last-place}
use Rattle.step_laws.proofs.Packed.{ends}
use Rattle.step_laws.specs.LengthSteps.{Measures}
use Rattle.step_laws.specs.PackSteps.{ranges_of, ranges_on}
use Rattle.step_laws.specs.Parts.{Part, told_of}

-- the ranges of what a function makes of a list
ranges-map : {X Y : Type 0} (f : X → Y) (from : ℕ) (places : List ℕ) (xs : List X) → map (map f) (ranges_on from places xs) ≡ ranges_on from places (map f xs)
ranges-map f from [] xs = refl
ranges-map f from (to ∷ places) xs =
    let here : map f (take (to - from) (drop from xs)) ≡ take (to - from) (drop from (map f xs)) =
    sym (take-map f (to - from) (drop from xs)) ∙ ap (take (to - from)) (sym (drop-map f from xs)) in
    λ i. here i ∷ ranges-map f to places xs i

all-ranges-map : {X Y : Type 0} (f : X → Y) (places : List ℕ) (xs : List X) → map (map f) (ranges_of places xs) ≡ ranges_of places (map f xs)
all-ranges-map f [] xs = refl
all-ranges-map f (from ∷ places) xs = ranges-map f from places xs

module _ (lengths : List ℕ) (f : ℕ → ℕ) (up : (k : ℕ) → f k ≤ f (k + 1)) where
  -- the totals of ranges end where the segments at the ends of these start
  starts-on : (k n : ℕ)
      → ends (start_of lengths (f k)) (map sum (ranges_on (f k) (map f (range_with_len (k + 1) n)) lengths)) ≡ map (start_of lengths) (map f (range_with_len (k + 1) n))
  starts-on k zero = refl
  starts-on k (suc n) =
      let places = map f (range_with_len (k + 1 + 1) n) in
      let here : start_of lengths (f k) + sum (slice_range lengths (f k) (f (k + 1))) ≡ start_of lengths (f (k + 1)) = sym (start-on lengths (f k) (f (k + 1)) (up k)) in
      ap (λ s. s ∷ ends s (map sum (ranges_on (f (k + 1)) places lengths))) here ∙ ap (λ ns. start_of lengths (f (k + 1)) ∷ ns) (starts-on (k + 1) n)

  starts-from : (n : ℕ) → f 0 ≡ 0 → places_of (map sum (ranges_of (map f (range_with_len 0 (suc n))) lengths)) ≡ starts_at lengths (map f (range_with_len 0 (suc n)))
  starts-from n first =
      let start : 0 ≡ start_of lengths (f 0) = sym (ap (start_of lengths) first) in
      let totals_on : List ℕ = map sum (ranges_on (f 0) (map f (range_with_len 1 n)) lengths) in
      by-ends totals_on ∙ ap (λ s. s ∷ ends s totals_on) start ∙ ap (λ ns. start_of lengths (f 0) ∷ ns) (starts-on 0 n)

  -- and they add up to where the last of these starts
  sums-on : (k n : ℕ)
      → start_of lengths (f k) + sum (map sum (ranges_on (f k) (map f (range_with_len (k + 1) n)) lengths)) ≡ start_of lengths (f (k + n))
  sums-on k zero =
      let none : k ≡ k + zero = omega arith in
      let nil : sum (map sum (ranges_on (f k) (map f (range_with_len (k + 1) zero)) lengths)) ≡ 0 = refl in
      omega (arith, nil) ∙ ap (λ j. start_of lengths (f j)) none
  sums-on k (suc n) =
      let places = map f (range_with_len (k + 1 + 1) n) in
      let next : (k + 1) + n ≡ k + suc n = omega arith in
      let own = sum (slice_range lengths (f k) (f (k + 1))) in
      let here : start_of lengths (f k) + own ≡ start_of lengths (f (k + 1)) = sym (start-on lengths (f k) (f (k + 1)) (up k)) in
      omega (arith, here, sum-cons own (map sum (ranges_on (f (k + 1)) places lengths)), sums-on (k + 1) n, ap (λ j. start_of lengths (f j)) next)

-- shares of some lengths, cut at even places
module _ (lengths : List ℕ) (len parts : ℕ) where
  abbrev f : ℕ → ℕ
  f k = even_place len parts k

  more : suc parts ≡ parts + 1
  more = omega arith

  abbrev sums : List ℕ → List ℕ
  sums places = map sum (ranges_of places lengths)

  -- the places of their totals are where the segments start at which the shares begin
  even-starts : places_of (sums (even_places len parts)) ≡ starts_at lengths (even_places len parts)
  even-starts =
      subst (λ n. places_of (sums (map f (range_with_len 0 n))) ≡ starts_at lengths (map f (range_with_len 0 n))) more
      (starts-from lengths f (λ k. omega arith) parts (first-place len parts))

  even-total : 1 ≤ parts → len ≡ length lengths → sum (sums (even_places len parts)) ≡ sum lengths
  even-total some all =
      let begin : start_of lengths (f 0) ≡ 0 = ap (start_of lengths) (first-place len parts) in
      let same : 0 + parts ≡ parts = omega arith in
      let end : start_of lengths (f (0 + parts)) ≡ sum lengths =
      ap (λ k. start_of lengths (f k)) same ∙ ap (start_of lengths) (last-place len parts some ∙ all) ∙ all-before lengths in
      subst (λ n. sum (sums (map f (range_with_len 0 n))) ≡ sum lengths) more
      (omega (arith, begin, end, sums-on lengths f (λ k. omega arith) 0 parts))

pub even-starts-told : (start measured : List (Part ℤ ℕ ℤ)) (lengths : List ℤ) (segments : List ℕ) (len : ℕ) (before places : List ℕ) → lengths_of lengths ≡ Ok segments
    → 1 ≤ length start → map (λ p. p.elements) start ≡ ranges_of (even_places (length lengths) (length start)) lengths → AllZip Measures start measured
    → RoomTold (exact_places_of (told_of measured) len) done before places
    → (sum segments ≡ len) × (places ≡ starts_at segments (even_places (length segments) (length start)))
even-starts-told start measured lengths segments len before places are some shares first told =
    let parts = length start in
    let sizes : segments ≡ map unsigned_abs lengths = sizes-are lengths segments are in
    let long : length lengths ≡ length segments = sym (ap length sizes ∙ length-map lengths unsigned_abs) in
    let evens = even_places (length lengths) parts in
    let sum_abs : List ℤ → ℕ = λ zs. sum (map unsigned_abs zs) in
    let own : totals start measured first ≡ map sum (ranges_of evens segments) =
    sym (map-map sum_abs (λ (p : Part ℤ ℕ ℤ). p.elements) start) ∙ ap (map sum_abs) shares ∙ sym (map-map sum (map unsigned_abs) (ranges_of evens lengths))
    ∙ ap (map sum) (all-ranges-map unsigned_abs evens lengths ∙ ap (ranges_of evens) (sym sizes)) in
    let given = (fills (exact_places_of (told_of measured) len) before places told).0 in
    let is = exact-given (totals start measured first) len places (sym (ap (λ ts. exact_places_of ts len) (told-totals start measured first)) ∙ given) in (
      sym (even-total segments (length lengths) parts some long) ∙ sym (ap sum own) ∙ is.0,
      is.1 ∙ ap places_of own ∙ even-starts segments (length lengths) parts ∙ ap (λ n. starts_at segments (even_places n parts)) long,
    )
