-- Lists of values some of which may be missing: all the values, where there are all.
use Rattle.call_laws.proofs.Cited.{◌≡◌, ◌+◌, ◌∷◌, ◌∙◌, ◌↔◌, ℕ, List, [], map, refl, ap, Some, None, Ok, Option, values_from, FaultNo}
use Rattle.call_laws.proofs.TwoParts.{from_value}

values-all : {Y : Type 0} (number : FaultNo) (place : ℕ) (ys : List Y) → values_from number place (map (λ y. Some y) ys) ≡ Ok ys
values-all number place [] = refl
values-all number place (y ∷ ys) = rw (values-all number (place + 1) ys)

all-values : {Y : Type 0} (number : FaultNo) (place : ℕ) (vs : List (Option Y)) (ys : List Y) → values_from number place vs ≡ Ok ys → vs ≡ map (λ y. Some y) ys
all-values number place [] ys p = let e : [] ≡ ys = cc in ap (map (λ y. Some y)) e
all-values number place (None ∷ vs) ys p = cc
all-values number place (Some y ∷ vs) ys p =
    let parts = from_value (values_from number (place + 1) vs) (λ zs. Ok (y ∷ zs)) ys p in
    let whole : y ∷ parts.0 ≡ ys = let e = parts.2 in cc in
    ap (λ ws. Some y ∷ ws) (all-values number (place + 1) vs parts.0 parts.1) ∙ ap (map (λ y. Some y)) whole

pub values-meaning : {Y : Type 0} (number : FaultNo) (place : ℕ) (vs : List (Option Y)) (ys : List Y) → (values_from number place vs ≡ Ok ys) ↔ (vs ≡ map (λ y. Some y) ys)
values-meaning number place vs ys = (all-values number place vs ys, λ same. rw same (values-all number place ys))
