-- A list that is written over place by place: the places before one hold the result, and the others what stood there.
-- Source: what the definitions of map and zip imply.
use Rattle.elementwise.proofs.Cited.{◌≡◌, ◌∙◌, ℕ, ◌+◌, ◌<◌, ◌≤◌, List, [], ◌∷◌, get_or, length, map, set, refl, sym, ap, arith, below_more, get_or-set_other, get_or-set_same, zip, get_or-map}
use Rattle.elementwise.proofs.Cited.{get_or-zip, length-zip, all_same}

pub record IsWritten {X : Type 0} (whole before now : List X) (place : ℕ) : Type 0 where
  pub done : (d : X) (k : ℕ) → k < place → get_or now k d ≡ get_or whole k d
  pub left : (d : X) (k : ℕ) → place ≤ k → get_or now k d ≡ get_or before k d

pub begins : {X : Type 0} (whole before : List X) → IsWritten whole before before 0
begins whole before = record { done = λ d k lt. absurd (omega (arith, lt)); left = λ d k le. refl }

module _ {X : Type 0} (whole before now : List X) (place : ℕ) (written : IsWritten whole before now place) where
  -- the place is written
  pub step : (x : X) → place < length now → ((d : X) → x ≡ get_or whole place d) → IsWritten whole before (set now place x) (place + 1)
  step x within is = record {
    done = λ d. below_more (λ k. get_or (set now place x) k d ≡ get_or whole k d) place
        (λ k lt. get_or-set_other now place k x d (omega (arith, lt)) ∙ written.done d k lt) (get_or-set_same now place x d within ∙ is d);
    left = λ d k le. get_or-set_other now place k x d (omega (arith, le)) ∙ written.left d k (omega (arith, le));
  }

  -- all are
  pub ends : length now ≡ length whole → length whole ≤ place → now ≡ whole
  ends long past = all_same now whole long (λ d k lt. written.done d k (omega (arith, lt, past, long)))

pub value_pair : {X : Type 0} (f : X → X → X) (before ys now : List X) (place : ℕ) → IsWritten (map (λ (p : X × X). f p.0 p.1) (zip before ys)) before now place
    → (x y v : X) → place < length before → place < length ys → x ≡ get_or now place x → y ≡ get_or ys place y → v ≡ f x y
    → (d : X) → v ≡ get_or (map (λ (p : X × X). f p.0 p.1) (zip before ys)) place d
value_pair f before ys now place written x y v in_before in_ys is_x is_y is_v d =
    is_v ∙ (λ i. f ((is_x ∙ written.left x place (omega arith)) i) (is_y i))
    ∙ ap (λ p. f p.0 p.1) (sym (get_or-zip before ys place (x, y) in_before in_ys))
    ∙ sym (get_or-map (λ p. f p.0 p.1) (zip before ys) place (x, y) d (omega (arith, length-zip before ys)))

-- the pairs the other way round
pub flipped : {X : Type 0} (f : X → X → X) (xs ys : List X) → map (λ (p : X × X). f p.1 p.0) (zip ys xs) ≡ map (λ (p : X × X). f p.0 p.1) (zip xs ys)
flipped f [] [] = refl
flipped f [] (y ∷ ys) = refl
flipped f (x ∷ xs) [] = refl
flipped f (x ∷ xs) (y ∷ ys) = ap (λ tail. f x y ∷ tail) (flipped f xs ys)

-- the pairs of a list with itself
pub twice : {X : Type 0} (f : X → X → X) (xs : List X) → map (λ x. f x x) xs ≡ map (λ (p : X × X). f p.0 p.1) (zip xs xs)
twice f [] = refl
twice f (x ∷ xs) = ap (λ tail. f x x ∷ tail) (twice f xs)
