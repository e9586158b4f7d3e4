-- The first fault of a permute by the owners of its places: of what senders and owners find, at the least place.
use Rattle.std.proofs.Common.{⊎_elim}
use Rattle.std.proofs.lemmas.Map.Views.{any-filter_same}
use Rattle.std.specs.Prelude.{◌<◌, ◌&&◌}
use Rattle.call_laws.proofs.Cited.{◌≡◌, ◌+◌, ◌≤◌, ◌∷◌, ◌∙◌, ℕ, ℤ, Bool, false, true, List, [], Option, Some, None, map, zip, fold, list_any, refl, sym, ap, arith, cases_Bool, lt-ltb, le-ltb, ltb-true}
use Rattle.call_laws.proofs.Cited.{pos, negsuc, nat_lt, if◌then◌else◌, FaultNo, IndexOutOfRange, IndexRepeated}
use Rattle.call_laws.proofs.Cited.{fault_at, first_fault, is_destination, wrong_at, wrongs, Decides-int_eq, map-map, seconds-zip}
use Rattle.std.specs.Option.{option_or}
use Rattle.call_laws.specs.Owned.{HasPlace, HaveOwners, agreed_fault, earlier_fault, first_of_owner, found_by_owner, found_by_sender}
use Rattle.operators.proofs.FoldLaws.{length-fronts}
use Rattle.operators.specs.Folds.{fronts}

-- ---- the first of two lists of faults, place by place

-- a fault stands before all that come later
before-later : (n : FaultNo) (k l : ℕ) (found : List (Option FaultNo)) → k ≤ l → earlier_fault (Some (fault_at n k)) (first_fault l found) ≡ Some (fault_at n k)
before-later n k l [] within = refl
before-later n k l (None ∷ found) within = before-later n k (l + 1) found (omega (arith, within))
before-later n k l (Some other ∷ found) within = rw (le-ltb l k within) refl

later-behind : (n : FaultNo) (k l : ℕ) (found : List (Option FaultNo)) → k < l → earlier_fault (first_fault l found) (Some (fault_at n k)) ≡ Some (fault_at n k)
later-behind n k l [] within = refl
later-behind n k l (None ∷ found) within = later-behind n k (l + 1) found (omega (arith, within))
later-behind n k l (Some other ∷ found) within = rw (lt-ltb k l within) refl

module _ (k : ℕ) (xs ys zs : List (Option FaultNo)) (same : first_fault (k + 1) zs ≡ earlier_fault (first_fault (k + 1) xs) (first_fault (k + 1) ys)) where
  first-both : (x y : Option FaultNo) → first_fault k (option_or x y ∷ zs) ≡ earlier_fault (first_fault k (x ∷ xs)) (first_fault k (y ∷ ys))
  first-both None None = same
  first-both None (Some n) = sym (later-behind n k (k + 1) xs (omega arith))
  first-both (Some n) None = sym (before-later n k (k + 1) ys (omega arith))
  first-both (Some n) (Some m) = sym (before-later n k k (Some m ∷ ys) (omega arith))

module _ {P : Type 0} where
  first-of_two : (s o : P → Option FaultNo) (k : ℕ) (ps : List P)
      → first_fault k (map (λ p. option_or (s p) (o p)) ps) ≡ earlier_fault (first_fault k (map s ps)) (first_fault k (map o ps))
  first-of_two s o k [] = refl
  first-of_two s o k (p ∷ ps) =
      first-both k (map s ps) (map o ps) (map (λ q. option_or (s q) (o q)) ps) (first-of_two s o (k + 1) ps) (s p) (o p)

  -- and of any number of them
  first-of_all : {O : Type 0} (told : O → P → Option FaultNo) (owners : List O) (s : P → Option FaultNo) (ps : List P)
      → first_fault 0 (map (λ p. fold option_or (s p) (map (λ o. told o p) owners)) ps)
      ≡ fold earlier_fault (first_fault 0 (map s ps)) (map (λ o. first_fault 0 (map (told o) ps)) owners)
  first-of_all told [] s ps = refl
  first-of_all told (o ∷ owners) s ps =
      first-of_all told owners (λ p. option_or (s p) (told o p)) ps
      ∙ ap (λ f. fold earlier_fault f (map (λ o. first_fault 0 (map (told o) ps)) owners)) (first-of_two s (told o) 0 ps)

-- ---- one place

first-stays : (n : FaultNo) (found : List (Option FaultNo)) → fold option_or (Some n) found ≡ Some n
first-stays n [] = refl
first-stays n (f ∷ found) = first-stays n found

none-found : {O : Type 0} (told : O → Option FaultNo) → ((o : O) → told o ≡ None) → (owners : List O) → fold option_or None (map told owners) ≡ None
none-found told none [] = refl
none-found told none (o ∷ owners) = rw (none o) (none-found told none owners)

-- the owner of a place finds it repeated where the whole does
has-place : (owns : Option ℤ → Bool) (i : ℤ) → owns (Some i) ≡ true → HasPlace owns i
has-place owns i has None e = cc
has-place owns i has (Some j) e = ap (λ t. owns (Some t)) ((Decides-int_eq j i).0 e) ∙ has

found-there : (owns : Option ℤ → Bool) (earlier : List (Option ℤ)) (i : ℤ) (again : Bool) → list_any (is_destination i) earlier ≡ again
    → found_by_owner owns earlier (Some i) ≡ (if owns (Some i) && again then Some IndexRepeated else None)
found-there owns earlier i again is =
    ⊎_elim
    (λ (has : owns (Some i) ≡ true). rw (has, any-filter_same (is_destination i) owns true (has-place owns i has) earlier, is) refl)
    (λ (has : owns (Some i) ≡ false). rw (has) refl)
    (cases_Bool (owns (Some i)))

all-found : (owners : List (Option ℤ → Bool)) (t : Option ℤ) (again : Bool)
    → fold option_or None (map (λ owns. if owns t && again then Some IndexRepeated else None) owners)
    ≡ (if list_any (λ owns. owns t) owners && again then Some IndexRepeated else None)
all-found [] t again = refl
all-found (owns ∷ owners) t false = grind (arith, all-found owners t false)
all-found (owns ∷ owners) t true =
    ⊎_elim
    (λ (has : owns t ≡ true). rw (has) (first-stays IndexRepeated (map (λ owns. if owns t && true then Some IndexRepeated else None) owners)))
    (λ (has : owns t ≡ false). rw (has) (all-found owners t true))
    (cases_Bool (owns t))

module _ (owners : List (Option ℤ → Bool)) (m : ℕ) (have : HaveOwners owners m) (earlier : List (Option ℤ)) where
  wrong-place : (d : ℕ) (again : Bool) → list_any (is_destination (pos d)) earlier ≡ again
      → wrong_at m earlier (Some (pos d)) ≡ fold option_or (found_by_sender m (Some (pos d))) (map (λ owns. found_by_owner owns earlier (Some (pos d))) owners)
  wrong-place d again is =
      ⊎_elim
      (λ (within : nat_lt d m ≡ true).
      let found : map (λ owns. found_by_owner owns earlier (Some (pos d))) owners ≡ map (λ owns. if owns (Some (pos d)) && again then Some IndexRepeated else None) owners =
      λ i. map (λ owns. found-there owns earlier (pos d) again is i) owners in
      rw (within, is, found, all-found owners (Some (pos d)) again, have d (ltb-true d m within)) refl)
      (λ (past : nat_lt d m ≡ false).
      rw (past) (sym (first-stays IndexOutOfRange (map (λ owns. found_by_owner owns earlier (Some (pos d))) owners))))
      (cases_Bool (nat_lt d m))

  wrong-by_owners : (t : Option ℤ) → wrong_at m earlier t ≡ fold option_or (found_by_sender m t) (map (λ owns. found_by_owner owns earlier t) owners)
  wrong-by_owners None = sym (none-found (λ owns. found_by_owner owns earlier None) (λ owns. refl) owners)
  wrong-by_owners (Some (pos d)) = wrong-place d (list_any (is_destination (pos d)) earlier) refl
  wrong-by_owners (Some (negsuc d)) = sym (first-stays IndexOutOfRange (map (λ owns. found_by_owner owns earlier (Some (negsuc d))) owners))

-- ---- all places

-- what senders find does not depend on what came before
of-senders : (m : ℕ) (destinations : List (Option ℤ)) → map (λ p. found_by_sender m p.1) (zip (fronts destinations) destinations) ≡ map (found_by_sender m) destinations
of-senders m destinations =
    sym (map-map (found_by_sender m) (λ p. p.1) (zip (fronts destinations) destinations))
    ∙ ap (map (found_by_sender m)) (seconds-zip (fronts destinations) destinations (sym (length-fronts destinations)))

pub first-by_owners : (owners : List (Option ℤ → Bool)) (m : ℕ) (destinations : List (Option ℤ)) → HaveOwners owners m
    → first_fault 0 (wrongs m destinations) ≡ agreed_fault owners m destinations
first-by_owners owners m destinations have =
    let ps = zip (fronts destinations) destinations in
    ap (first_fault 0) (λ i. map (λ p. wrong-by_owners owners m have p.0 p.1 i) ps)
    ∙ first-of_all (λ owns p. found_by_owner owns p.0 p.1) owners (λ p. found_by_sender m p.1) ps
    ∙ ap (λ fs. fold earlier_fault (first_fault 0 fs) (map (first_of_owner destinations) owners)) (of-senders m destinations)
