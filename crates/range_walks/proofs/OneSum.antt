-- One sum over the elements of many segments, which begins anew where segments end.
-- Source: what the definitions of ends, of reduces and of scans imply.
use Rattle.range_walks.proofs.Cited.{◌≡◌, ℕ, zero, suc, ◌+◌, ◌-◌, ◌<◌, ◌≤◌, List, [], ◌∷◌, length, take, drop, get_or, refl, sym, ap, ◌∙◌, arith, sum, drop_all, drop-take, length-take}
use Rattle.range_walks.proofs.Cited.{sum-cons, start_of, reduces_of}
use Rattle.range_walks.specs.Ends.{AreEnds, IsIn}
use Rattle.range_walks.proofs.SegmentNumbers.{in_count, length-reduced, none_joined, reduced_more}
use Rattle.segdes.proofs.Searched.{start_of_mono}
use Rattle.std.proofs.Common.{⊎_elim}
use Rattle.std.proofs.lemmas.Bool.{cases_lt}
use Rattle.std.proofs.lemmas.List.{get_or-replicate, get_or-set_same}

-- where segments end, the next one that holds the place starts
pub starts_there : (lengths ends : List ℕ) (place : ℕ) → AreEnds lengths ends → place < sum lengths → 0 < get_or ends place 0
    → place ≤ start_of lengths (sum (take place ends) + get_or ends place 0)
starts_there lengths ends zero are within some = omega arith
starts_there lengths ends (suc last) are within some =
    let number : sum (take (last + 1) ends) ≡ sum (take (suc last) ends) = let next : last + 1 ≡ suc last = omega arith in ap (λ k. sum (take k ends)) next in
    let holds : IsIn lengths (sum (take (last + 1) ends)) last = are last (omega (arith, within)) in
    let end : start_of lengths (sum (take (last + 1) ends) + 1) ≡ start_of lengths (sum (take (suc last) ends) + 1) = ap (λ s. start_of lengths (s + 1)) number in
    let later = start_of_mono lengths (sum (take (suc last) ends) + 1) (sum (take (suc last) ends) + get_or ends (suc last) 0) (omega (arith, some)) in
    omega (arith, holds.1, end, later)

module _ {Item : Type 0} (join : Item → Item → Item) (unit : Item) where
  drop_of_take : (n place : ℕ) (xs : List Item) → drop n (take place xs) ≡ take (place - n) (drop n xs)
  drop_of_take n place xs = ⊎_elim
      (λ (before : place < n). let none : 0 ≡ place - n = omega (arith, before) in drop_all n (take place xs) (omega (arith, before, length-take place xs)) ∙ ap (λ k. take k (drop n xs)) none)
      (λ (after : n ≤ place). let split : place ≡ n + (place - n) = omega (arith, after) in ap (λ k. drop n (take k xs)) split ∙ drop-take n (place - n) xs) (cases_lt place n)

  none_there : (lengths : List ℕ) (s : ℕ) (d : Item) → s < length lengths → get_or (reduces_of join unit lengths []) s d ≡ unit
  none_there lengths s d lt = ap (λ sums. get_or sums s d) (none_joined join unit lengths) ∙ get_or-replicate (length lengths) s unit d lt

  pub none_yet : (lengths : List ℕ) → unit ≡ get_or (reduces_of join unit lengths []) 0 unit
  none_yet [] = refl
  none_yet (n ∷ ls) = sym (none_there (n ∷ ls) 0 unit (omega arith))

  -- no element before the start of a segment is joined to its reduce
  pub nothing_joined : (lengths : List ℕ) (xs : List Item) (place s : ℕ) (d : Item) → place ≤ start_of lengths s → s < length lengths
      → get_or (reduces_of join unit lengths (take place xs)) s d ≡ unit
  nothing_joined [] xs place s d le lt = absurd (omega (arith, lt))
  nothing_joined (n ∷ ls) xs place zero d le lt =
      let first : start_of (n ∷ ls) 0 ≡ 0 = refl in
      let none : place ≡ 0 = omega (arith, le, first) in
      ap (λ k. get_or (reduces_of join unit (n ∷ ls) (take k xs)) 0 d) none ∙ none_there (n ∷ ls) 0 d lt
  nothing_joined (n ∷ ls) xs place (suc s) d le lt =
      ap (λ ys. get_or (reduces_of join unit ls ys) s d) (drop_of_take n place xs)
      ∙ nothing_joined ls (drop n xs) (place - n) s d (omega (arith, le, sum-cons n (take s ls))) (omega (arith, lt))

  -- the reduce of the segment that holds the next place is the sum, if no segment ends there
  pub goes_on : (lengths ends : List ℕ) (xs : List Item) (place : ℕ) (now : Item) → get_or ends place 0 ≡ 0
      → now ≡ get_or (reduces_of join unit lengths (take place xs)) (sum (take place ends)) unit
      → now ≡ get_or (reduces_of join unit lengths (take place xs)) (sum (take place ends) + get_or ends place 0) unit
  goes_on lengths ends xs place now none is =
      let same : sum (take place ends) ≡ sum (take place ends) + get_or ends place 0 = omega (arith, none) in
      is ∙ ap (λ s. get_or (reduces_of join unit lengths (take place xs)) s unit) same

  -- else it is the unit
  pub begins_anew : (lengths ends : List ℕ) (xs : List Item) (place : ℕ) → AreEnds lengths ends → place < sum lengths → 0 < get_or ends place 0
      → IsIn lengths (sum (take place ends) + get_or ends place 0) place
      → unit ≡ get_or (reduces_of join unit lengths (take place xs)) (sum (take place ends) + get_or ends place 0) unit
  begins_anew lengths ends xs place are within some holds =
      let next = sum (take place ends) + get_or ends place 0 in
      sym (nothing_joined lengths xs place next unit (starts_there lengths ends place are within some) (in_count lengths next place holds))

  -- an element is joined to the reduce of its segment
  pub sum_joined : (lengths : List ℕ) (xs : List Item) (place s : ℕ) (before x next : Item) → IsIn lengths s place → place < length xs → x ≡ get_or xs place x
      → before ≡ get_or (reduces_of join unit lengths (take place xs)) s unit → next ≡ join before x → next ≡ get_or (reduces_of join unit lengths (take (place + 1) xs)) s unit
  sum_joined lengths xs place s before x next holds within is_x is_before is_next =
      let own = in_count lengths s place holds in
      sym (get_or-set_same (reduces_of join unit lengths (take place xs)) s next unit (omega (arith, own, length-reduced join unit lengths (take place xs))))
      ∙ ap (λ row. get_or row s unit) (reduced_more join unit lengths xs place s unit before x next holds within is_x is_before is_next)
