-- Combining permutes and counts by ranges of their room.
use Rattle.call_laws.proofs.Cited.{◌≡◌, ◌∙◌, ◌↔◌, ◌+◌, ◌++◌, ◌∷◌, ℕ, Bool, ℤ, pos, List, [], length, map, map-append, count_by, cond, refl, sym, ap, arith, Some, None, Option, is_some}
use Rattle.call_laws.proofs.Cited.{count_destinations, enumerate_from, first_fault, is_between, range_both, range_with_len, sum_by-cons}
use Rattle.call_laws.proofs.FirstSent.{named-all, named-parts}
use Rattle.combining_permutes.specs.CombiningPermutes.{combined, named_between, names, place_counts, sent_there}
use Rattle.cvl_base.specs.Folds.{fold_of}
use Rattle.first_senders.specs.FirstSenders.{wrong_in}
use Rattle.permute_walks.specs.Indices.{first_outside, outside}

-- ---- what is joined, and counted

numbered : {X : Type 0} (low : ℕ) (front back : List X) → enumerate_from low (front ++ back) ≡ enumerate_from low front ++ enumerate_from (low + length front) back
numbered low [] back = ap (λ k. enumerate_from k back) (omega arith)
numbered low (x ∷ front) back =
    ap (λ es. (low, x) ∷ es) (numbered (low + 1) front back ∙ ap (λ k. enumerate_from (low + 1) front ++ enumerate_from k back) (omega arith))

pub joined-ranges : {X : Type 0} (join : X → X → X) (sends : List (ℤ × X)) (low : ℕ) (front back : List X)
    → combined join sends low (front ++ back) ≡ combined join sends low front ++ combined join sends (low + length front) back
joined-ranges {X} join sends low front back =
    let at : ℕ × X → X = λ p. fold_of join p.1 (sent_there sends p.0) in
    ap (map at) (numbered low front back) ∙ map-append at (enumerate_from low front) (enumerate_from (low + length front) back)

pub counts-ranges : (index : List ℤ) (low m n : ℕ) → place_counts index low (m + n) ≡ place_counts index low m ++ place_counts index (low + m) n
counts-ranges index low m n =
    let count : ℕ → ℤ = λ d. pos (count_by (names d) index) in
    ap (map count) (range_both low m n) ∙ map-append count (range_with_len low m) (range_with_len (low + m) n)

-- ---- how many name a place

abbrev some_of : List ℤ → List (Option ℤ)
some_of index = map (λ i. Some i) index

count-some : (p : Option ℤ → Bool) (index : List ℤ) → count_by p (some_of index) ≡ count_by (λ i. p (Some i)) index
count-some p [] = refl
count-some p (i ∷ index) = omega (
  arith,
  sum_by-cons (λ t. cond {A = ℕ} (p t) 1 0) (Some i) (some_of index),
  sum_by-cons (λ j. cond {A = ℕ} (p (Some j)) 1 0) i index,
  count-some p index,
)

pub named-ranges : (index : List ℤ) (low m n : ℕ) → named_between index low (m + n) ≡ named_between index low m + named_between index (low + m) n
named-ranges index low m n =
    sym (count-some (is_between low (low + (m + n))) index) ∙ named-parts (some_of index) low m n
    ∙ (λ i. count-some (is_between low (low + m)) index i + count-some (is_between (low + m) (low + m + n)) index i)

all-destinations : (index : List ℤ) → count_destinations (some_of index) ≡ length index
all-destinations [] = refl
all-destinations (i ∷ index) = omega (arith, sum_by-cons (λ (t : Option ℤ). cond {A = ℕ} (is_some t) 1 0) (Some i) (some_of index), all-destinations index)

wrongs : (m : ℕ) (index : List ℤ) → map (wrong_in m) (some_of index) ≡ map (outside m) index
wrongs m [] = refl
wrongs m (i ∷ index) = ap (λ others. outside m i ∷ others) (wrongs m index)

pub all-named : (index : List ℤ) (m : ℕ) → (named_between index 0 m ≡ length index) ↔ (first_outside 0 m index ≡ None)
all-named index m =
    let whole = named-all m 0 (some_of index) in
    let count : named_between index 0 m ≡ count_by (is_between 0 m) (some_of index) =
    sym (count-some (is_between 0 (0 + m)) index) ∙ ap (λ k. count_by (is_between 0 k) (some_of index)) (omega arith) in
    let faults = ap (first_fault 0) (wrongs m index) in (
      λ same. sym faults ∙ whole.0 (sym count ∙ same ∙ sym (all-destinations index)),
      λ none. count ∙ whole.1 (faults ∙ none) ∙ all-destinations index,
    )
