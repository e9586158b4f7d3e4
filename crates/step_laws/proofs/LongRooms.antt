-- Rooms of sums in 64 bits, in which what stands may grow, and their parts.
use Rattle.std.proofs.Common.{◌≡◌, ◌∙◌, ◌+◌, ◌^◌, ◌∷◌, ℕ, ℤ, pos, negsuc, Bool, true, false, IsTrue, List, []}
use Rattle.std.proofs.Common.{All, ap, arith, get_or, map, refl, None, Some, Option, Ok, Err, Result}
use Rattle.std.proofs.lemmas.Bool.{lt-ltb, ltb-true}
use Rattle.std.proofs.lemmas.List.Elements.{All-append, All-cons, All-head, All-nil, All-tail}
use Rattle.std.proofs.lemmas.Option.{none-some}
use Rattle.std.specs.List.{AllPass, AllZip}
use Rattle.std.specs.Prelude.{if◌then◌else◌}
use Rattle.std.specs.Result.{result_ok}
use Rattle.cvl_base.specs.declared.fault.Fault.{Fault}
use Rattle.cvl_base.specs.declared.fault.FaultNo.TheVariants.{Overflow}
use Rattle.cvl_base.specs.Elementwise.{values_from}
use Rattle.cvl_base.specs.Gives.{◌>>=◌}
use Rattle.cvl_base.specs.ItemWords.{is_number}
use Rattle.cvl_base.specs.Lists.{joined}
use Rattle.long_sums.specs.LongSums.{is_long, may_grow}
use Rattle.long_sums.specs.RoomSums.{all_growing, growing}

-- ---- numbers, and what may grow

pub grows-number : (z : ℤ) → IsTrue (is_number z) → IsTrue (may_grow z)
grows-number (pos n) h = let below = ltb-true n (2 ^ 31) h in lt-ltb n (2 ^ 62) (omega (arith, below))
grows-number (negsuc n) h = let below = ltb-true n (2 ^ 31) h in lt-ltb n (2 ^ 62) (omega (arith, below))

pub long-grows : (z : ℤ) → IsTrue (may_grow z) → IsTrue (is_long z)
long-grows (pos n) h = let below = ltb-true n (2 ^ 62) h in lt-ltb n (2 ^ 63) (omega (arith, below))
long-grows (negsuc n) h = let below = ltb-true n (2 ^ 62) h in lt-ltb n (2 ^ 63) (omega (arith, below))

pub all_grow : (xs : List ℤ) → AllPass is_number xs → AllPass may_grow xs
all_grow xs numbers = λ k d lt. grows-number (get_or xs k d) (numbers k d lt)

pub all_long : (xs : List ℤ) → AllPass may_grow xs → AllPass is_long xs
all_long xs grow = λ k d lt. long-grows (get_or xs k d) (grow k d lt)

-- ---- a room that may grow

pub grows_all : (place : ℕ) (zs : List ℤ) → AllPass may_grow zs → all_growing place zs ≡ Ok zs
grows_all place [] grow = refl
grows_all place (z ∷ zs) grow =
    let own : may_grow z ≡ true = All-head (λ x. IsTrue (may_grow x)) z zs grow in
    ap (λ b. values_from Overflow place ((if b then Some z else None) ∷ map growing zs)) own
    ∙ ap (λ r. r >>= λ ys. Ok (z ∷ ys)) (grows_all (place + 1) zs (All-tail (λ x. IsTrue (may_grow x)) z zs grow))

some_rest : (rest : Result (List ℤ) Fault) (z : ℤ) (y : List ℤ) → (rest >>= λ ys. Ok (z ∷ ys)) ≡ Ok y → (ys : List ℤ) × (rest ≡ Ok ys)
some_rest (Ok ys) z y is = (ys, refl)
some_rest (Err f) z y is = absurd (none-some y (ap result_ok is))

pub first_grows : (b : Bool) (place : ℕ) (z : ℤ) (vs : List (Option ℤ)) (y : List ℤ) → values_from Overflow place ((if b then Some z else None) ∷ vs) ≡ Ok y
    → (b ≡ true) × ((ys : List ℤ) × (values_from Overflow (place + 1) vs ≡ Ok ys))
first_grows false place z vs y is = absurd (none-some y (ap result_ok is))
first_grows true place z vs y is = (refl, some_rest (values_from Overflow (place + 1) vs) z y is)

pub all_growing-grow : (place : ℕ) (zs ys : List ℤ) → all_growing place zs ≡ Ok ys → AllPass may_grow zs
all_growing-grow place [] ys is = All-nil (λ z. IsTrue (may_grow z))
all_growing-grow place (z ∷ zs) ys is =
    let first = first_grows (may_grow z) place z (map growing zs) ys is in
    All-cons (λ x. IsTrue (may_grow x)) z zs first.0 (all_growing-grow (place + 1) zs first.1.0 first.1.1)

-- ---- parts of a room

pub all-joined : {A X : Type 0} (P : X → Type 0) (f : A → List X) (parts : List A) → All (λ a. All P (f a)) parts → All P (joined (map f parts))
all-joined P f [] each = All-nil P
all-joined P f (a ∷ parts) each =
    All-append P (f a) (joined (map f parts)) (All-head (λ b. All P (f b)) a parts each) (all-joined P f parts (All-tail (λ b. All P (f b)) a parts each))

pub all-same : {A : Type 0} (xs ys : List A) → AllZip (λ x y. y ≡ x) xs ys → ys ≡ xs
all-same [] [] same = refl
all-same [] (y ∷ ys) same = absurd same
all-same (x ∷ xs) [] same = absurd same
all-same (x ∷ xs) (y ∷ ys) same = (λ t. same.0 t ∷ all-same xs ys same.1 t)
