-- A segmented call, segment by segment: the results so far, and after them what the segments left give.
use Rattle.scan_walks.proofs.Cited.{◌≡◌, ◌∙◌, ◌+◌, ◌≤◌, ◌∷◌, ◌++◌, ◌>>=◌, ℕ, List, [], length, drop, refl, sym, ap, Result, Ok, Err, after, moved, results_from, after-none, option_map, flat_map}
use Rattle.scan_walks.proofs.Cited.{drop_all, map-id, Fault, after-after, after-end, uncons}
use Rattle.std.proofs.lemmas.List.Concat.{flat_map_single}
use Rattle.scan_walks.proofs.Parts.{StandsAt}

-- how a result stands for some elements: it is one, or is the list of them
abbrev pub single : {X : Type 0} → X → List X
single x = x ∷ []

abbrev pub itself : {X : Type 0} → List X → List X
itself xs = xs

-- what the segments from s on give, one after another, where a segment's result stands for some elements
abbrev pub given : {S R X : Type 0} → (R → List X) → (ℕ → ℕ → ℕ) → (S → Result R Fault) → ℕ → List S → Result (List X) Fault
given elements place call s xs = results_from place call s xs >>= λ rs. Ok (flat_map elements rs)

-- a result that is one element
pub singles : {X : Type 0} (results : Result (List X) Fault) → results ≡ (results >>= λ xs. Ok (flat_map single xs))
singles (Ok xs) = ap Ok (sym (flat_map_single (λ x. x) xs ∙ map-id xs))
singles (Err e) = refl

module _ {S R X : Type 0} (elements : R → List X) (place : ℕ → ℕ → ℕ) (call : S → Result R Fault) where
  regroup : (r : R) (others : Result (List R) Fault)
      → ((others >>= λ rs. Ok (r ∷ rs)) >>= λ rs. Ok (flat_map elements rs)) ≡ after (elements r) (others >>= λ rs. Ok (flat_map elements rs))
  regroup r (Ok rs) = refl
  regroup r (Err e) = refl

  -- the first segment, with a fault or without
  first_of : (s : ℕ) (x : S) (xs : List S) (r : Result R Fault) → call x ≡ r
      → given elements place call s (x ∷ xs) ≡ ((moved (place s) r >>= λ y. results_from place call (s + 1) xs >>= λ rs. Ok (y ∷ rs)) >>= λ rs. Ok (flat_map elements rs))
  first_of s x xs r has = ap (λ c. (moved (place s) c >>= λ y. results_from place call (s + 1) xs >>= λ rs. Ok (y ∷ rs)) >>= λ rs. Ok (flat_map elements rs)) has

  -- a segment without a fault
  pub given-more : (s : ℕ) (x : S) (xs : List S) (r : R) → call x ≡ Ok r → given elements place call s (x ∷ xs) ≡ after (elements r) (given elements place call (s + 1) xs)
  given-more s x xs r has = first_of s x xs (Ok r) has ∙ regroup r (results_from place call (s + 1) xs)

-- what is done when a walk through the segments comes to segment s: the whole is this, and after it what the segments left give
pub record Walked {S R X : Type 0} (elements : R → List X) (place : ℕ → ℕ → ℕ) (call : S → Result R Fault) (segments : List S) (s : ℕ) (done : List X) (whole : Result (List X) Fault) : Type 0 where
  pub so_far : whole ≡ after done (given elements place call s (drop s segments))

module _ {S R X : Type 0} {elements : R → List X} {place : ℕ → ℕ → ℕ} {call : S → Result R Fault} {segments : List S} where
  pub begins : (done : List X) (whole : Result (List X) Fault) → done ≡ [] → whole ≡ given elements place call 0 segments → Walked elements place call segments 0 done whole
  begins done whole none is =
      let others = given elements place call 0 segments in record { so_far = is ∙ sym (ap (λ d. after d others) none ∙ after-none others) }

  module _ {s : ℕ} {done : List X} {whole : Result (List X) Fault} (walked : Walked elements place call segments s done whole) where
    module _ {x : S} (at : StandsAt segments s x) where
      here : whole ≡ after done (given elements place call s (x ∷ drop (s + 1) segments))
      here = walked.so_far ∙ ap (λ xs. after done (given elements place call s xs)) (uncons segments s x at.within at.here)

      pub one_more : (r : R) (now : List X) → call x ≡ Ok r → now ≡ done ++ elements r → Walked elements place call segments (s + 1) now whole
      one_more r now has grown =
          let others = given elements place call (s + 1) (drop (s + 1) segments) in
          record {
            so_far = cc (here, given-more elements place call s x (drop (s + 1) segments) r has, after-after done (elements r) others, grown);
          }

      pub fails : (f : Fault) → call x ≡ Err f → whole ≡ Err (record { number = f.number; place = option_map (place s) f.place })
      fails f has = here ∙ ap (after done) (first_of elements place call s x (drop (s + 1) segments) (Err f) has)

    pub all_done : length segments ≤ s → whole ≡ Ok done
    all_done ge = walked.so_far ∙ ap (λ xs. after done (given elements place call s xs)) (drop_all s segments ge) ∙ after-end done
