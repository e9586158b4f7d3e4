-- The calls on the segments of a segmented call, end to end: the first fault at its place in the whole, else what they give.
use Rattle.permute_walks.proofs.Cited.{rules, ◌≡◌, ℕ, ◌+◌, ◌<◌, List, [], ◌∷◌, ◌++◌, length, sum, take, drop, get_or, refl, sym, ap, length-drop, arith, option_map, Option, Some, None, Result, Ok}
use Rattle.permute_walks.proofs.Cited.{Err, option_or, drop_more, sum_by_more, Fault, FaultNo, fault_at, ◌>>=◌, unless, first_fault}
use Rattle.cvl_base.specs.Lists.{joined}
use Rattle.cvl_base.specs.Segmented.{in_vector, moved}

-- ---- faults at their places in the whole

moved_fault : (ℕ → ℕ) → Fault → Fault
moved_fault to f = record { number = f.number; place = option_map to f.place }

fault_moved : (lengths : List ℕ) (s p k : ℕ) (ws : List (Option FaultNo)) → sum (take s lengths) + k ≡ p → first_fault p ws ≡ option_map (moved_fault (in_vector lengths s)) (first_fault k ws)
unfolding moved_fault
fault_moved lengths s p k [] is = refl
fault_moved lengths s p k (None ∷ ws) is = fault_moved lengths s (p + 1) (k + 1) ws (omega (arith, is))
fault_moved lengths s p k (Some number ∷ ws) is = ap (λ q. Some (fault_at number q)) (sym is)

-- ---- a segment in front of others

in_front : {X : Type 0} (to : ℕ → ℕ) (o others : Option Fault) (r later : List X) (rest : Result (List (List X)) Fault) → (rest >>= λ lists. Ok (joined lists)) ≡ unless others (Ok later)
    → ((moved to (unless o (Ok r)) >>= λ r. rest >>= λ rs. Ok (r ∷ rs)) >>= λ lists. Ok (joined lists)) ≡ unless (option_or (option_map (moved_fault to) o) others) (Ok (r ++ later))
unfolding moved_fault
in_front to (Some f) others r later rest is = refl
in_front to None None r later (Ok rs) is = let same : joined rs ≡ later = cc in ap (λ xs. Ok (r ++ xs)) same
in_front to None None r later (Err e) is = cc
in_front to None (Some f) r later (Ok rs) is = cc
in_front to None (Some f) r later (Err e) is = is

pub front : {X : Type 0} (lengths : List ℕ) (s place : ℕ) (result : Result (List X) Fault) (ws : List (Option FaultNo)) (r later : List X) (rest : Result (List (List X)) Fault) (others : Option Fault)
    → sum (take s lengths) ≡ place → result ≡ unless (first_fault 0 ws) (Ok r) → (rest >>= λ lists. Ok (joined lists)) ≡ unless others (Ok later)
    → ((moved (in_vector lengths s) result >>= λ r. rest >>= λ rs. Ok (r ∷ rs)) >>= λ lists. Ok (joined lists)) ≡ unless (option_or (first_fault place ws) others) (Ok (r ++ later))
front lengths s place result ws r later rest others there is more = search (rules, in_front, fault_moved)

-- the lengths that are left, after one more
pub left_more : (lengths : List ℕ) (s n : ℕ) (others : List ℕ) → drop s lengths ≡ n ∷ others → (drop (s + 1) lengths ≡ others) × (sum (take (s + 1) lengths) ≡ sum (take s lengths) + n)
left_more lengths s n others left =
    let within : s < length lengths = omega (arith, length-drop s lengths, ap length left) in
    let more = drop_more lengths s 0 within in
    let same : get_or lengths s 0 ≡ n = cc in
    let rest : drop (s + 1) lengths ≡ others = cc in
    (rest, omega (arith, sum_by_more (λ x. x) lengths s 0 within))
