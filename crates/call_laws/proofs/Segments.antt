-- Segmented calls by their flat calls, and on one segment.
use Rattle.call_laws.proofs.Cited.{rules, nat_tests, ◌≡◌, ◌≢◌, ◌+◌, ◌∷◌, ◌++◌, ◌∙◌, ◌↔◌, ◌>>=◌, ℕ, Bool, List, [], length, map, refl, sym, ap, arith, inl, inr, Ok, Err, Result, eqb_tells}
use Rattle.call_laws.proofs.Cited.{append-nil, take_all, fault, joined, nest, count_of, beside, of_two, of_three, in_vector, moved, results_from, one_each, end_to_end, seg_count_of, sum-cons}
use Rattle.call_laws.proofs.Cited.{nest-fits, nest-misfits, results-ok, ◌⊎◌, Fault}
use Rattle.cvl_base.specs.declared.fault.FaultNo.TheVariants as no
use Rattle.call_laws.proofs.TwoParts.{from_value, moved-stays, results-append}

-- ---- the results and the first fault

pub each-ok : {S R : Type 0} (place : ℕ → ℕ → ℕ) (f : S → R) (segments : Result (List S) Fault) → one_each place (λ s. Ok (f s)) segments ≡ (segments >>= λ ss. Ok (map f ss))
each-ok place f (Ok ss) = results-ok place f 0 ss
each-ok place f (Err e) = refl

pub counts-of : (lengths : List ℕ) (flags : List Bool) (segments : List (List Bool)) → nest lengths flags ≡ Ok segments → seg_count_of flags lengths ≡ Ok (map count_of segments)
counts-of lengths flags segments cut = rw cut (results-ok (in_vector lengths) count_of 0 segments)

module _ {S R : Type 0} (place : ℕ → ℕ → ℕ) (call : S → Result R Fault) where
  from_each : (s : ℕ) (xs : List S) (rs : List R) → map call xs ≡ map (λ r. Ok r) rs → results_from place call s xs ≡ Ok rs
  from_each s [] [] same = refl
  from_each s [] (r ∷ rs) same = cc
  from_each s (x ∷ xs) [] same = cc
  from_each s (x ∷ xs) (r ∷ rs) same =
      let first : call x ≡ Ok r = cc in
      let rest : map call xs ≡ map (λ r. Ok r) rs = cc in
      rw (first, from_each (s + 1) xs rs rest)

  to_each : (s : ℕ) (xs : List S) (rs : List R) → results_from place call s xs ≡ Ok rs → map call xs ≡ map (λ r. Ok r) rs
  to_each s [] rs p = let e : [] ≡ rs = cc in ap (map (λ r. Ok r)) e
  to_each s (x ∷ xs) rs p =
      let first = from_value (moved (place s) (call x)) (λ r. results_from place call (s + 1) xs >>= λ rs. Ok (r ∷ rs)) rs p in
      let rest = from_value (results_from place call (s + 1) xs) (λ rs. Ok (first.0 ∷ rs)) rs first.2 in
      let listed : first.0 ∷ rest.0 ≡ rs = let e = rest.2 in cc in
      (λ i. unmoved (call x) first.0 first.1 i ∷ to_each (s + 1) xs rest.0 rest.1 i) ∙ ap (map (λ r. Ok r)) listed
    where
      unmoved : (r : Result R Fault) (y : R) → moved (place s) r ≡ Ok y → r ≡ Ok y
      unmoved (Ok z) y e = e
      unmoved (Err f) y e = cc

  pub results-meaning : (segments : List S) (results : List R) → (one_each place call (Ok segments) ≡ Ok results) ↔ (map call segments ≡ map (λ r. Ok r) results)
  results-meaning segments results = (to_each 0 segments results, from_each 0 segments results)

  pub first-fault : (good : List S) (bad : S) (others : List S) (results : List R) (f : Fault) → map call good ≡ map (λ r. Ok r) results → call bad ≡ Err f
      → one_each place call (Ok (good ++ bad ∷ others)) ≡ moved (place (length good)) (Err f)
  first-fault good bad others results f same fails =
      results-append call place 0 good (bad ∷ others) ∙ rw (from_each 0 good results same, fails) (ap (λ n. moved (place n) (Err f)) (omega arith))

-- ---- results that are lists

pub joined-meaning : {S X : Type 0} (place : ℕ → ℕ → ℕ) (call : S → Result (List X) Fault) (segments : List S) (result : List X)
    → (end_to_end place call (Ok segments) ≡ Ok result) ↔ ((lists : List (List X)) × (map call segments ≡ map (λ r. Ok r) lists) × (result ≡ joined lists))
joined-meaning place call segments result = (
  λ p.
      let parts = from_value (one_each place call (Ok segments)) (λ lists. Ok (joined lists)) result p in
      let same : result ≡ joined parts.0 = let e = parts.2 in cc in
      (parts.0, (results-meaning place call segments parts.0).0 parts.1, same),
  λ parts. rw ((results-meaning place call segments parts.0).1 parts.1) (ap Ok (sym parts.2)),
)

-- ---- one segment

-- all of a list, or the lengths differ
pub one_of : {X : Type 0} (n : ℕ) (xs : List X) → ((n ≡ length xs) × (nest (n ∷ []) xs ≡ Ok (xs ∷ []))) ⊎ ((n ≢ length xs) × (nest (n ∷ []) xs ≡ Err (fault no.LengthMismatch)))
one_of n xs = grind (arith, nat_tests, eqb_tells, nest-fits, sum-cons, take_all, nest-misfits)

-- the flat result, alone in its list, is the result
pub alone : {X : Type 0} (r : Result (List X) Fault) → ((r >>= λ xs. Ok [] >>= λ rs. Ok (xs ∷ rs)) >>= λ lists. Ok (joined lists)) ≡ r
alone (Ok xs) = ap Ok (append-nil xs)
alone (Err f) = refl

pub flat-again : {S X : Type 0} (lengths : List ℕ) (call : S → Result (List X) Fault) (x : S) → end_to_end (in_vector lengths) call (Ok (x ∷ [])) ≡ call x
flat-again lengths call x = rw (moved-stays (in_vector lengths 0) (λ p. omega arith) (call x)) (alone (call x))

pub nest_one : {X : Type 0} (xs : List X) → nest (length xs ∷ []) xs ≡ Ok (xs ∷ [])
nest_one xs = elim (one_of (length xs) xs) [ inl t ↦ t.1 | inr t ↦ absurd (t.0 refl) ]

-- a call of two vectors, which fails where the second is not so long
pub two-again : {A B X : Type 0} (lengths : List ℕ) (call : List A → List B → Result (List X) Fault) (xs : List A) (n : ℕ) (ys : List B)
    → (n ≢ length ys → call xs ys ≡ Err (fault no.LengthMismatch))
    → end_to_end (in_vector lengths) (of_two call) (beside (nest (length xs ∷ []) xs) (nest (n ∷ []) ys)) ≡ call xs ys
two-again lengths call xs n ys mismatch = search (rules, one_of, nest_one, flat-again)

-- and of three
pub three-again : {A B C X : Type 0} (call : List A → List B → List C → Result (List X) Fault) (xs : List A) (ys : List B) (n : ℕ) (zs : List C)
    → (length xs ≢ length ys → call xs ys zs ≡ Err (fault no.LengthMismatch)) → (length xs ≡ length ys → n ≢ length zs → call xs ys zs ≡ Err (fault no.LengthMismatch))
    → end_to_end (in_vector (length xs ∷ [])) (of_three call) (beside (beside (nest (length xs ∷ []) xs) (nest (length xs ∷ []) ys)) (nest (n ∷ []) zs)) ≡ call xs ys zs
three-again call xs ys n zs mismatch also_mismatch = search (rules, one_of, nest_one, flat-again)
