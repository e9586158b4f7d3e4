-- Where parts stand in a vector, and their ranges of it.
use Rattle.std.proofs.Common.{◌≡◌, ◌≢◌, ◌∙◌, ◌+◌, ◌-◌, ◌==◌, ◌&&◌, ◌<◌, ◌^◌, ℕ, pos, Bool, true, false, not, nat_lt, List, [], ◌∷◌, ◌++◌, length, map, sum, Ok, Err, refl, sym, ap, arith}
use Rattle.std.proofs.Common.{All, eqb, take_all, unsigned_abs, ⊎_elim}
use Rattle.std.proofs.Math.Bool.{and-false}
use Rattle.std.proofs.lemmas.Bool.{and_parts, eq-eqb, eqb-true, le-ltb, lt-ltb, ne_eqb}
use Rattle.std.proofs.lemmas.Bool.Decides.{eqb_tells}
use Rattle.std.proofs.lemmas.List.{length-map}
use Rattle.std.proofs.lemmas.List.Elements.{All-head, All-tail}
use Rattle.std.proofs.lemmas.Option.{none-some, same_Some}
use Rattle.std.specs.List.{list_all, zip}
use Rattle.std.specs.Result.{result_ok}
use Rattle.cvl_base.proofs.Descriptors.{abs_pos, not_negative}
use Rattle.cvl_base.proofs.Lists.{sum-cons}
use Rattle.cvl_base.specs.declared.fault.FaultNo.TheVariants as no
use Rattle.cvl_base.specs.Faults.{fault}
use Rattle.cvl_base.specs.Folds.{scan_of}
use Rattle.cvl_base.specs.Gives.{fault_if}
use Rattle.cvl_base.specs.Lists.{joined}
use Rattle.part_cuts.proofs.Paired.{ends_at-push, paired, unpaired}
use Rattle.part_cuts.proofs.Told.{length-places_of}
use Rattle.part_cuts.specs.Pairs.{added_places_of, are_places, ends_at, places_of_pairs, remaining_places_of}
use Rattle.part_cuts.specs.Places.{exact_count_places_of, exact_places_of, is_count, places_of}
use Rattle.step_laws.proofs.Packed.{ends, joined-ranges, length-ranges, places-on}
use Rattle.step_laws.specs.PackSteps.{ranges_of}

-- the places of parts by where each part ends
pub by-ends : (lengths : List ℕ) → places_of lengths ≡ 0 ∷ ends 0 lengths
by-ends lengths = ap (λ n. scan_of ◌+◌ 0 lengths ++ n ∷ []) (omega arith) ∙ places-on 0 lengths

-- the ranges of a vector that has exactly the parts' elements
module _ {X : Type 0} (lengths : List ℕ) (xs : List X) (add_up : sum lengths ≡ length xs) where
  pub ranges-joined : joined (ranges_of (places_of lengths) xs) ≡ xs
  ranges-joined =
      ap (λ places. joined (ranges_of places xs)) (by-ends lengths) ∙ joined-ranges 0 lengths xs
      ∙ take_all (sum lengths) xs (omega (arith, add_up))

  pub ranges-long : map length (ranges_of (places_of lengths) xs) ≡ lengths
  ranges-long =
      ap (λ places. map length (ranges_of places xs)) (by-ends lengths) ∙ length-ranges 0 lengths xs (omega (arith, add_up))

-- ---- what exact places say

-- places that are given are those of lengths that add up
pub exact-given : (lengths : List ℕ) (len : ℕ) (places : List ℕ) → exact_places_of lengths len ≡ Ok places → (sum lengths ≡ len) × (places ≡ places_of lengths)
exact-given lengths len places is =
    ⊎_elim
    (λ (adds : (eqb (sum lengths) len ≡ true) × (sum lengths ≡ len)). (
      adds.1,
      sym (same_Some (places_of lengths) places
          (ap result_ok (sym (ap (λ b. fault_if (not b) (fault no.LengthMismatch) (Ok (places_of lengths))) adds.0) ∙ is))),
    ))
    (λ (differs : (eqb (sum lengths) len ≡ false) × (sum lengths ≢ len)).
    absurd (none-some places (ap result_ok (sym (ap (λ b. fault_if (not b) (fault no.LengthMismatch) (Ok (places_of lengths))) differs.0) ∙ is))))
    (eqb_tells (sum lengths) len)

all_counts : (counts : List ℕ) → list_all is_count (map pos counts) ≡ true
all_counts [] = refl
all_counts (n ∷ counts) = ap (λ b. not b && list_all is_count (map pos counts)) (not_negative n) ∙ all_counts counts

pub exact-fits : (lengths : List ℕ) (len : ℕ) → sum lengths ≡ len → exact_places_of lengths len ≡ Ok (places_of lengths)
exact-fits lengths len is = ap (λ b. fault_if (not b) (fault no.LengthMismatch) (Ok (places_of lengths))) (eq-eqb (sum lengths) len is)

pub exact-misfits : (lengths : List ℕ) (len : ℕ) → sum lengths ≢ len → exact_places_of lengths len ≡ Err (fault no.LengthMismatch)
exact-misfits lengths len is = ap (λ b. fault_if (not b) (fault no.LengthMismatch) (Ok (places_of lengths))) (ne_eqb (sum lengths) len is)

-- counts are lengths
pub count-places : (counts : List ℕ) (len : ℕ) → exact_count_places_of (map pos counts) len ≡ exact_places_of counts len
count-places counts len =
    ap (λ b. fault_if (not b) (fault no.LengthMismatch) (exact_places_of (map unsigned_abs (map pos counts)) len)) (all_counts counts)
    ∙ ap (λ ns. exact_places_of ns len) (abs_pos counts)

-- ---- places by pairs

-- the last place is where all end
pub ends-total : (lengths : List ℕ) (len : ℕ) → ends_at len (places_of lengths) ≡ (sum lengths == len)
ends-total lengths len = ends_at-push len (scan_of ◌+◌ 0 lengths) (sum lengths)

module _ {P : Type 0} (both one other : P → ℕ) where
  abbrev Adds : P → Type 0
  Adds p = both p ≡ one p + other p

  -- places in one vector, taken from those in both
  rest-ends : (from more : ℕ) (parts : List P) → All Adds parts
      → map (λ p. p.0 - p.1) (zip (ends (from + more) (map both parts)) (ends from (map one parts))) ≡ ends more (map other parts)
  rest-ends from more [] add = refl
  rest-ends from more (p ∷ parts) add =
      let here : both p ≡ one p + other p = All-head Adds p parts add in
      let next : (from + more) + both p ≡ (from + one p) + (more + other p) = omega (arith, here) in
      let place : ((from + one p) + (more + other p)) - (from + one p) ≡ more + other p = omega arith in
      ap (λ n. map (λ p. p.0 - p.1) (zip (n ∷ ends n (map both parts)) ((from + one p) ∷ ends (from + one p) (map one parts)))) next
      ∙ ap (λ n. n ∷ map (λ p. p.0 - p.1) (zip (ends ((from + one p) + (more + other p)) (map both parts)) (ends (from + one p) (map one parts)))) place
      ∙ ap (λ ns. (more + other p) ∷ ns) (rest-ends (from + one p) (more + other p) parts (All-tail Adds p parts add))

  pub rest-places : (parts : List P) → All Adds parts
      → places_of_pairs (λ place count. not (nat_lt place count)) ◌-◌ (places_of (map both parts)) (places_of (map one parts)) ≡ places_of (map other parts)
  rest-places parts add =
      (λ i. map (λ p. p.0 - p.1) (zip (by-ends (map both parts) i) (by-ends (map one parts) i)))
      ∙ ap (λ ns. 0 ∷ ns) (rest-ends 0 0 parts add) ∙ sym (by-ends (map other parts))

  abbrev pub may-take : ℕ → ℕ → Bool
  may-take place count = not (nat_lt place count)

  none-negative : (from more : ℕ) (parts : List P) → All Adds parts
      → list_all (λ p. may-take p.0 p.1) (zip (ends (from + more) (map both parts)) (ends from (map one parts))) ≡ true
  none-negative from more [] add = refl
  none-negative from more (p ∷ parts) add =
      let here : both p ≡ one p + other p = All-head Adds p parts add in
      let next : (from + more) + both p ≡ (from + one p) + (more + other p) = omega (arith, here) in
      ap (λ n. list_all (λ q. may-take q.0 q.1) (zip (n ∷ ends n (map both parts)) ((from + one p) ∷ ends (from + one p) (map one parts)))) next
      ∙ ap (λ b. not b && list_all (λ q. may-take q.0 q.1) (zip (ends ((from + one p) + (more + other p)) (map both parts)) (ends (from + one p) (map one parts))))
      (le-ltb ((from + one p) + (more + other p)) (from + one p) (omega arith))
      ∙ none-negative (from + one p) (more + other p) parts (All-tail Adds p parts add)

  module _ (parts : List P) (add : All Adds parts) where
    abbrev from-places : List ℕ
    from-places = places_of (map both parts)

    abbrev taken-places : List ℕ
    taken-places = places_of (map one parts)

    as-many-places : length from-places ≡ length taken-places
    as-many-places =
        omega (arith, length-places_of (map both parts), length-places_of (map one parts), length-map parts both, length-map parts one)

    all-may : list_all (λ p. may-take p.0 p.1) (zip from-places taken-places) ≡ true
    all-may =
        (λ i. list_all (λ p. may-take p.0 p.1) (zip (by-ends (map both parts) i) (by-ends (map one parts) i))) ∙ none-negative 0 0 parts add

    -- whether the places that are left are those of the other vector
    are-rest : (len : ℕ) → are_places may-take ◌-◌ from-places taken-places len ≡ (sum (map other parts) == len)
    are-rest len =
        ap (λ b. b && ends_at len (places_of_pairs may-take ◌-◌ from-places taken-places)) all-may
        ∙ ap (ends_at len) (rest-places parts add) ∙ ends-total (map other parts) len

    -- where parts go on in the other vector
    pub rest-fits : (len : ℕ) → sum (map other parts) ≡ len → remaining_places_of from-places taken-places len ≡ Ok (places_of (map other parts))
    rest-fits len is =
        paired may-take ◌-◌ from-places taken-places len as-many-places (are-rest len ∙ eq-eqb (sum (map other parts)) len is) ∙ ap Ok (rest-places parts add)

    pub rest-misfits : (len : ℕ) → sum (map other parts) ≢ len → remaining_places_of from-places taken-places len ≡ Err (fault no.LengthMismatch)
    rest-misfits len other_sum =
        unpaired may-take ◌-◌ from-places taken-places len as-many-places (are-rest len ∙ ne_eqb (sum (map other parts)) len other_sum)

    pub rest-given : (len : ℕ) (rest : List ℕ) → remaining_places_of from-places taken-places len ≡ Ok rest
        → (sum (map other parts) ≡ len) × (rest ≡ places_of (map other parts))
    rest-given len rest is =
        ⊎_elim
        (λ (adds : (eqb (sum (map other parts)) len ≡ true) × (sum (map other parts) ≡ len)).
        (adds.1, sym (same_Some (places_of (map other parts)) rest (ap result_ok (sym (rest-fits len adds.1) ∙ is)))))
        (λ (differs : (eqb (sum (map other parts)) len ≡ false) × (sum (map other parts) ≢ len)).
        absurd (none-some rest (ap result_ok (sym (rest-misfits len differs.1) ∙ is))))
        (eqb_tells (sum (map other parts)) len)

-- ---- places in a vector that has the elements of two

module _ {P : Type 0} (one other : P → ℕ) where
  abbrev pub fits-place : ℕ → ℕ → Bool
  fits-place place more = nat_lt (place + more) (2 ^ 64)

  both-ends : (from more : ℕ) (parts : List P)
      → map (λ p. p.0 + p.1) (zip (ends from (map one parts)) (ends more (map other parts))) ≡ ends (from + more) (map (λ p. one p + other p) parts)
  both-ends from more [] = refl
  both-ends from more (p ∷ parts) =
      let next : (from + one p) + (more + other p) ≡ (from + more) + (one p + other p) = omega arith in
      ap (λ ns. ((from + one p) + (more + other p)) ∷ ns) (both-ends (from + one p) (more + other p) parts)
      ∙ ap (λ n. n ∷ ends n (map (λ q. one q + other q) parts)) next

  both-places : (parts : List P) → places_of_pairs fits-place ◌+◌ (places_of (map one parts)) (places_of (map other parts)) ≡ places_of (map (λ p. one p + other p) parts)
  both-places parts =
      (λ i. map (λ p. p.0 + p.1) (zip (by-ends (map one parts) i) (by-ends (map other parts) i)))
      ∙ ap (λ ns. 0 ∷ ns) (both-ends 0 0 parts) ∙ sym (by-ends (map (λ p. one p + other p) parts))

  -- places that are given if two lists of places are as long
  given : (long are : Bool) (xs ys zs : List ℕ) → length xs ≡ length ys
      → fault_if (not long) (fault no.LengthMismatch) (fault_if (not are) (fault no.LengthMismatch) (Ok (places_of_pairs fits-place ◌+◌ xs ys))) ≡ Ok zs
      → (are ≡ true) × (zs ≡ places_of_pairs fits-place ◌+◌ xs ys)
  given true true xs ys zs many is = (refl, sym (same_Some (places_of_pairs fits-place ◌+◌ xs ys) zs (ap result_ok is)))
  given true false xs ys zs many is = absurd (none-some zs (ap result_ok is))
  given false are xs ys zs many is = absurd (none-some zs (ap result_ok is))

  pub both-given : (parts : List P) (len : ℕ) (places : List ℕ) → added_places_of (places_of (map one parts)) (places_of (map other parts)) len ≡ Ok places
      → (sum (map (λ p. one p + other p) parts) ≡ len) × (places ≡ places_of (map (λ p. one p + other p) parts))
  both-given parts len places is =
      let starts = places_of (map one parts) in let others = places_of (map other parts) in let sums = map (λ p. one p + other p) parts in
      let many : length starts ≡ length others =
      omega (arith, length-places_of (map one parts), length-places_of (map other parts), length-map parts one, length-map parts other) in
      let found = given (length starts == length others) (are_places fits-place ◌+◌ starts others len) starts others places many is in
      let last : ends_at len (places_of_pairs fits-place ◌+◌ starts others) ≡ true =
      (and_parts (list_all (λ p. fits-place p.0 p.1) (zip starts others)) (ends_at len (places_of_pairs fits-place ◌+◌ starts others)) found.0).1 in
      (eqb-true (sum sums) len (sym (ends-total sums len) ∙ sym (ap (ends_at len) (both-places parts)) ∙ last), found.1 ∙ both-places parts)

  -- places that end below 2^64 fit 64 bits
  all-fit : (from more : ℕ) (parts : List P) → (from + more) + sum (map (λ p. one p + other p) parts) < 2 ^ 64
      → list_all (λ p. fits-place p.0 p.1) (zip (ends from (map one parts)) (ends more (map other parts))) ≡ true
  all-fit from more [] small = refl
  all-fit from more (p ∷ parts) small =
      let here : (from + more) + ((one p + other p) + sum (map (λ q. one q + other q) parts)) < 2 ^ 64 =
      omega (arith, small, sum-cons (one p + other p) (map (λ q. one q + other q) parts)) in
      ap (λ b. b && list_all (λ q. fits-place q.0 q.1) (zip (ends (from + one p) (map one parts)) (ends (more + other p) (map other parts))))
      (lt-ltb ((from + one p) + (more + other p)) (2 ^ 64) (omega (arith, here)))
      ∙ all-fit (from + one p) (more + other p) parts (omega (arith, here))

  module _ (parts : List P) (len : ℕ) (small : len < 2 ^ 64) where
    abbrev starts : List ℕ
    starts = places_of (map one parts)

    abbrev others : List ℕ
    others = places_of (map other parts)

    abbrev sums : List ℕ
    sums = map (λ p. one p + other p) parts

    as-long : length starts ≡ length others
    as-long = omega (arith, length-places_of (map one parts), length-places_of (map other parts), length-map parts one, length-map parts other)

    ends-both : ends_at len (places_of_pairs fits-place ◌+◌ starts others) ≡ (sum sums == len)
    ends-both = ap (ends_at len) (both-places parts) ∙ ends-total sums len

    pub both-fits : sum sums ≡ len → added_places_of starts others len ≡ Ok (places_of sums)
    both-fits is =
        let all : list_all (λ p. fits-place p.0 p.1) (zip starts others) ≡ true =
        (λ i. list_all (λ p. fits-place p.0 p.1) (zip (by-ends (map one parts) i) (by-ends (map other parts) i))) ∙ all-fit 0 0 parts (omega (arith, small, is)) in
        paired fits-place ◌+◌ starts others len as-long
        (ap (λ b. b && ends_at len (places_of_pairs fits-place ◌+◌ starts others)) all ∙ ends-both ∙ eq-eqb (sum sums) len is)
        ∙ ap Ok (both-places parts)

    pub both-misfits : sum sums ≢ len → added_places_of starts others len ≡ Err (fault no.LengthMismatch)
    both-misfits other_sum =
        let all = list_all (λ p. fits-place p.0 p.1) (zip starts others) in
        unpaired fits-place ◌+◌ starts others len as-long (ap (λ b. all && b) (ends-both ∙ ne_eqb (sum sums) len other_sum) ∙ and-false all)
