-- Vectors whose element k is a function of k, and what the calls give of them.
use Rattle.std.proofs.Common.{◌≡◌, ℕ, zero, suc, ◌+◌, ◌<◌, ◌≤◌, Bool, List, [], ◌∷◌, length, map, ℤ, pos, ◌+ℤ◌, ◌*ℤ◌, refl, sym, ap, ◌∙◌, arith, Option, Some, Ok, None}
use Rattle.std.specs.Prelude.{ok_or, replicate, slice_set, unwrap_or, if◌then◌else◌}
use Rattle.std.specs.List.{All, list_all, range_with_len, slice_index_or, zip}
use Rattle.std.proofs.lemmas.Bool.{lt-ltb}
use Rattle.std.proofs.lemmas.List.{get_or-replicate, length-map, length-replicate}
use Rattle.std.proofs.lemmas.List.Elements.{All-tail}
use Rattle.std.proofs.lemmas.List.Folds.{list_all-map}
use Rattle.std.proofs.lemmas.List.FromFn.{fill_by_all, length-map-range_with_len, take-map-range_with_len}
use Rattle.std.proofs.lemmas.Option.{unwrap_or-slice_get}
use Rattle.cvl_base.specs.declared.fault.FaultNo.{FaultNo}
use Rattle.cvl_base.specs.declared.fault.FaultNo.TheVariants as no
use Rattle.cvl_base.proofs.Distributes.{as_length-fits}
use Rattle.cvl_base.proofs.Elementwise.{if_as_long-fits}
use Rattle.cvl_base.specs.Distributes.{distribute_of, index_of}
use Rattle.cvl_base.specs.Elementwise.{on_pairs, on_pairs_or, values_from}
use Rattle.cvl_base.specs.Extracts.{replace_of}
use Rattle.cvl_base.specs.Faults.{fault_at}
use Rattle.cvl_base.specs.Folds.{fold_of, scan_of}
use Rattle.cvl_base.specs.Gives.{◌>>=◌}
use Rattle.cvl_base.specs.Integers.{wrap}
use Rattle.cvl_base.specs.Limits.{most_elements}
use Rattle.operators.proofs.FoldLaws.{length-scan_of, slice_get-scan_of}

-- n elements
abbrev pub table : {X : Type 0} → (ℕ → X) → ℕ → List X
table f n = map f (range_with_len 0 n)

pub same_map : {X : Type 0} (f g : ℕ → X) (s n : ℕ) → ((k : ℕ) → s ≤ k → k < s + n → f k ≡ g k) → map f (range_with_len s n) ≡ map g (range_with_len s n)
same_map f g s zero same = refl
same_map f g s (suc n) same =
    let first : f s ≡ g s = same s (omega arith) (omega arith) in
    let others = same_map f g (s + 1) n (λ k above below. same k (omega arith) (omega arith)) in
    λ i. first i ∷ others i

-- a test of each place of a range
pub same_tests : (p q : ℕ → Bool) (s n : ℕ) → ((k : ℕ) → s ≤ k → k < s + n → p k ≡ q k) → list_all p (range_with_len s n) ≡ list_all q (range_with_len s n)
same_tests p q s n same =
    let ks = range_with_len s n in
    sym (list_all-map (λ b. b) p ks) ∙ ap (list_all (λ b. b)) (same_map p q s n same) ∙ list_all-map (λ b. b) q ks

-- ---- elementwise calls, on vectors that are functions of the same places

zipped : {X Y Z : Type 0} (op : X → Y → Z) (f : ℕ → X) (g : ℕ → Y) (ks : List ℕ) → map (λ p. op p.0 p.1) (zip (map f ks) (map g ks)) ≡ map (λ k. op (f k) (g k)) ks
zipped op f g [] = refl
zipped op f g (k ∷ ks) = ap (λ others. op (f k) (g k) ∷ others) (zipped op f g ks)

as_long : {X Y : Type 0} (f : ℕ → X) (g : ℕ → Y) (ks : List ℕ) → length (map f ks) ≡ length (map g ks)
as_long f g ks = length-map ks f ∙ sym (length-map ks g)

pub pairs : {X Y Z : Type 0} (op : X → Y → Z) (f : ℕ → X) (g : ℕ → Y) (ks : List ℕ) → on_pairs op (map f ks) (map g ks) ≡ Ok (map (λ k. op (f k) (g k)) ks)
pairs op f g ks = if_as_long-fits (map f ks) (map g ks) (Ok (map (λ p. op p.0 p.1) (zip (map f ks) (map g ks)))) (as_long f g ks) ∙ ap Ok (zipped op f g ks)

-- all values, where each element has one
pub all_values : {W Z : Type 0} (number : FaultNo) (o : W → Option Z) (h : W → Z) (place : ℕ) (ws : List W) → All (λ w. o w ≡ Some (h w)) ws → values_from number place (map o ws) ≡ Ok (map h ws)
all_values number o h place [] each = refl
all_values number o h place (w ∷ ws) each =
    ap (λ v. ok_or v (fault_at number place) >>= λ y. values_from number (place + 1) (map o ws) >>= λ ys. Ok (y ∷ ys)) (each 0 w (omega arith))
    ∙ ap (λ r. r >>= λ ys. Ok (h w ∷ ys)) (all_values number o h (place + 1) ws (All-tail (λ w. o w ≡ Some (h w)) w ws each))

-- an operator that has a value at each place
pub pairs_or : {X Y Z : Type 0} (number : FaultNo) (op : X → Y → Option Z) (f : ℕ → X) (g : ℕ → Y) (h : ℕ → Z) (ks : List ℕ) → ((k : ℕ) → op (f k) (g k) ≡ Some (h k))
    → on_pairs_or number op (map f ks) (map g ks) ≡ Ok (map h ks)
pairs_or number op f g h ks is =
    if_as_long-fits (map f ks) (map g ks) (values_from number 0 (map (λ p. op p.0 p.1) (zip (map f ks) (map g ks)))) (as_long f g ks)
    ∙ ap (values_from number 0) (zipped op f g ks)
    ∙ all_values number (λ k. op (f k) (g k)) h 0 ks (λ k d below. is (slice_index_or ks k d))

-- ---- calls that make a vector

pub distributed : {X : Type 0} (x : X) (n : ℕ) → n ≤ most_elements → distribute_of x (pos n) ≡ Ok (table (λ _. x) n)
distributed x n few =
    ap (λ r. r >>= λ m. Ok (replicate m x)) (as_length-fits n few)
    ∙ ap Ok (fill_by_all (λ _. x) (replicate n x) n x (length-replicate n x) (λ k below. get_or-replicate n k x x below))

pub indexed : (init stride : ℤ) (n : ℕ) → n ≤ most_elements → index_of init stride (pos n) ≡ Ok (table (λ k. wrap (init +ℤ pos k *ℤ stride)) n)
indexed init stride n few = ap (λ r. r >>= λ m. Ok (map (λ k. wrap (init +ℤ pos k *ℤ stride)) (range_with_len 0 m))) (as_length-fits n few)

-- ---- the first element replaced

abbrev pub with_first : {X : Type 0} → X → (ℕ → X) → ℕ → X
with_first x f zero = x
with_first x f (suc k) = f (suc k)

pub after_first : {X : Type 0} (x : X) (f : ℕ → X) (k : ℕ) → 1 ≤ k → f k ≡ with_first x f k
after_first x f zero above = absurd (omega arith)
after_first x f (suc k) above = refl

pub first_replaced : {X : Type 0} (x : X) (f : ℕ → X) (n : ℕ) → 0 < n → replace_of (table f n) (pos 0) x ≡ Ok (table (with_first x f) n)
first_replaced x f zero some = absurd (omega arith)
first_replaced x f (suc n) some =
    let within : 0 < length (table f (suc n)) = omega arith in
    ap (λ b. ok_or (if b then Some (slice_set (table f (suc n)) 0 x) else None) (fault_at no.IndexOutOfRange 0)) (lt-ltb 0 (length (table f (suc n))) within)
    ∙ ap (λ others. Ok (x ∷ others)) (same_map f (with_first x f) 1 n (λ k above below. after_first x f k above))

-- ---- scans

pub scanned : {X : Type 0} (join : X → X → X) (unit : X) (f : ℕ → X) (n : ℕ) → scan_of join unit (table f n) ≡ table (λ k. fold_of join unit (table f k)) n
scanned join unit f n =
    let long = length-map-range_with_len f 0 n in
    fill_by_all (λ k. fold_of join unit (table f k)) (scan_of join unit (table f n)) n unit (length-scan_of join unit (table f n) ∙ long) (λ k below.
    sym (unwrap_or-slice_get (scan_of join unit (table f n)) k unit)
    ∙ ap (λ o. unwrap_or o unit) (slice_get-scan_of join unit (table f n) k (omega (arith, long)))
    ∙ ap (fold_of join unit) (take-map-range_with_len f 0 n k (omega arith)))
