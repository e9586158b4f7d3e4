-- What two parts give together, and the results on segments and on more segments behind them.
use Rattle.call_laws.proofs.Cited.{rules, ◌≡◌, ◌+◌, ◌<◌, ◌∷◌, ◌++◌, ◌∙◌, ◌>>=◌, ℕ, List, [], length, map, append_assoc, length-append, refl, sym, ap, arith, option_map, zip, Option, Some, None, Ok}
use Rattle.call_laws.proofs.Cited.{Err, Result, ok_or, length-zip, values_from, fault_at, joined, at_segment, beside, end_to_end, moved, one_each, results_from, Fault, FaultNo, after, beside-fits}
use Rattle.call_laws.proofs.Cited.{in_turn, in_two}
use Rattle.std.proofs.lemmas.Grind.{flat_map-append}
use Rattle.cvl_base.proofs.Gives.{after-none}

-- what is done with a result was done with a value, where something came of it
pub from_value : {X Y : Type 0} (r : Result X Fault) (next : X → Result Y Fault) (y : Y) → (r >>= next) ≡ Ok y → (x : X) × (r ≡ Ok x) × (next x ≡ Ok y)
from_value (Ok x) next y p = (x, refl, p)
from_value (Err f) next y p = cc

-- ---- places that are moved

place-moved : (f g h : ℕ → ℕ) → ((p : ℕ) → f p ≡ h (g p)) → (o : Option ℕ) → option_map f o ≡ option_map h (option_map g o)
place-moved f g h same None = refl
place-moved f g h same (Some p) = ap Some (same p)

moved-moved : {X : Type 0} (f g h : ℕ → ℕ) → ((p : ℕ) → f p ≡ h (g p)) → (r : Result X Fault) → moved f r ≡ moved h (moved g r)
moved-moved f g h same (Ok x) = refl
moved-moved f g h same (Err e) = λ i. Err (record { number = e.number; place = place-moved f g h same e.place i })

place-stays : (f : ℕ → ℕ) → ((p : ℕ) → f p ≡ p) → (o : Option ℕ) → option_map f o ≡ o
place-stays f same None = refl
place-stays f same (Some p) = ap Some (same p)

pub moved-stays : {X : Type 0} (f : ℕ → ℕ) → ((p : ℕ) → f p ≡ p) → (r : Result X Fault) → moved f r ≡ r
moved-stays f same (Ok x) = refl
moved-stays f same (Err e) = λ i. Err (record { number = e.number; place = place-stays f same e.place i })

moved-onto : {R : Type 0} (f : ℕ → ℕ) (a : Result R Fault) (b : Result (List R) Fault)
    → moved f (a >>= λ r. b >>= λ rs. Ok (r ∷ rs)) ≡ (moved f a >>= λ r. moved f b >>= λ rs. Ok (r ∷ rs))
moved-onto f (Err e) b = refl
moved-onto f (Ok r) (Err e) = refl
moved-onto f (Ok r) (Ok rs) = refl

-- ---- two parts

-- the first of three parts may be cut off before or after the second
pub in_two-assoc : {X : Type 0} (m n : ℕ) (a b c : Result (List X) Fault) → in_two (m + n) (in_two m a b) c ≡ in_two m a (in_two n b c)
in_two-assoc m n (Err e) b c = refl
in_two-assoc m n (Ok xs) (Err e) c = refl
in_two-assoc m n (Ok xs) (Ok ys) (Ok zs) = ap Ok (append_assoc xs ys zs)
in_two-assoc {X = X} m n (Ok xs) (Ok ys) (Err e) =
    ap (after xs) (moved-moved {X = List X} (λ p. (m + n) + p) (λ p. n + p) (λ p. m + p) (λ p. omega arith) (Err e))

-- what two parts give together, at places of a text that both are a part of
pub moved-two : {X : Type 0} (before n : ℕ) (a b : Result (List X) Fault)
    → moved (λ p. before + p) (in_two n a b) ≡ in_turn (moved (λ p. before + p) a) (moved (λ p. (before + n) + p) b)
moved-two before n (Err e) b = refl
moved-two before n (Ok xs) (Ok ys) = refl
moved-two {X = X} before n (Ok xs) (Err e) =
    ap (after xs) (sym (moved-moved {X = List X} (λ p. (before + n) + p) (λ p. n + p) (λ p. before + p) (λ p. omega arith) (Err e)))

pub joined-append : {X : Type 0} (xs ys : List (List X)) → joined (xs ++ ys) ≡ joined xs ++ joined ys
joined-append xs ys = flat_map-append (λ zs. zs) xs ys

pub joined-two : {X : Type 0} (n : ℕ) (a b : Result (List (List X)) Fault)
    → (in_two n a b >>= λ lists. Ok (joined lists)) ≡ in_two n (a >>= λ lists. Ok (joined lists)) (b >>= λ lists. Ok (joined lists))
joined-two n (Err e) b = refl
joined-two n (Ok xs) (Err e) = refl
joined-two n (Ok xs) (Ok ys) = ap Ok (joined-append xs ys)

onto-after : {R : Type 0} (a : Result R Fault) (b c : Result (List R) Fault)
    → (a >>= λ r. (b >>= λ rs. after rs c) >>= λ rs. Ok (r ∷ rs)) ≡ ((a >>= λ r. b >>= λ rs. Ok (r ∷ rs)) >>= λ rs. after rs c)
onto-after (Err e) b c = refl
onto-after (Ok r) (Err e) c = refl
onto-after (Ok r) (Ok rs) (Err e) = refl
onto-after (Ok r) (Ok rs) (Ok others) = refl

-- ---- results without a fault: of two parts, of which the first has k and the second l

pub record AreTwo {S : Type 0} (whole first second : Result (List S) Fault) (k l : ℕ) : Type 0 where
  pub before : List S
  pub others : List S
  pub together : whole ≡ Ok (before ++ others)
  pub one : first ≡ Ok before
  pub other : second ≡ Ok others
  pub many : length before ≡ k
  pub also_many : length others ≡ l

pub listed : {S : Type 0} (before others : List S) {k l : ℕ} → length before ≡ k → length others ≡ l → AreTwo (Ok (before ++ others)) (Ok before) (Ok others) k l
listed before others many also_many = record { before = before; others = others; together = refl; one = refl; other = refl; many = many; also_many = also_many }

pub two-parts : {S : Type 0} {whole first second : Result (List S) Fault} {k l : ℕ} → AreTwo whole first second k l → (n : ℕ) → whole ≡ in_two n first second
two-parts two n = rw (two.together, two.one, two.other)

-- lists that are equally long in both parts, beside one another
pub zip-append : {A B : Type 0} (xs : List A) (ys : List B) (more : List A) (others : List B) → length xs ≡ length ys → zip (xs ++ more) (ys ++ others) ≡ zip xs ys ++ zip more others
zip-append [] [] more others same = refl
zip-append [] (y ∷ ys) more others same = absurd (omega arith)
zip-append (x ∷ xs) [] more others same = absurd (omega arith)
zip-append (x ∷ xs) (y ∷ ys) more others same = ap (λ ps. (x, y) ∷ ps) (zip-append xs ys more others (omega arith))

module _ {A B : Type 0} {whole first second : Result (List A) Fault} {whole2 first2 second2 : Result (List B) Fault} {k l : ℕ} where
  pub both : AreTwo whole first second k l → AreTwo whole2 first2 second2 k l → AreTwo (beside whole whole2) (beside first first2) (beside second second2) k l
  both p q =
      let long : length p.before ≡ length q.before = p.many ∙ sym q.many in
      let also_long : length p.others ≡ length q.others = p.also_many ∙ sym q.also_many in
      record {
        before = zip p.before q.before;
        others = zip p.others q.others;
        together = search (rules, beside-fits, length-append, zip-append);
        one = (λ i. beside (p.one i) (q.one i)) ∙ beside-fits p.before q.before long;
        other = (λ i. beside (p.other i) (q.other i)) ∙ beside-fits p.others q.others also_long;
        many = omega (arith, length-zip p.before q.before, p.many);
        also_many = omega (arith, length-zip p.others q.others, p.also_many);
      }

-- ---- the results on segments

module _ {S R : Type 0} (call : S → Result R Fault) where
  pub results-append : (place : ℕ → ℕ → ℕ) (s : ℕ) (xs ys : List S)
      → results_from place call s (xs ++ ys) ≡ (results_from place call s xs >>= λ rs. after rs (results_from place call (s + length xs) ys))
  results-append place s [] ys =
      ap (λ n. results_from place call n ys) (omega arith) ∙ sym (after-none (results_from place call (s + length {A = S} []) ys))
  results-append place s (x ∷ xs) ys = search (rules, onto-after, results-append place (s + 1) xs ys)

  -- the same segments, counted from another number on, whose places are moved
  results-moved : (place other : ℕ → ℕ → ℕ) (move : ℕ → ℕ) (d s : ℕ) (xs : List S) → ((u p : ℕ) → u < s + length xs → place (d + u) p ≡ move (other u p))
      → results_from place call (d + s) xs ≡ moved move (results_from other call s xs)
  results-moved place other move d s [] same = refl
  results-moved place other move d s (x ∷ xs) same = search (rules, moved-moved, moved-onto, results-moved place other move d (s + 1) xs (λ u p lt. same u p (omega arith)))

  module _ (place first_place second_place : ℕ → ℕ → ℕ) (n : ℕ) (before others : List S)
      (in_first : (s p : ℕ) → s < length before → place s p ≡ first_place s p)
      (in_second : (s p : ℕ) → s < length others → place (length before + s) p ≡ n + second_place s p) where
    pub results-two : one_each place call (Ok (before ++ others)) ≡ in_two n (one_each first_place call (Ok before)) (one_each second_place call (Ok others))
    results-two =
        let first : results_from place call 0 before ≡ results_from first_place call 0 before =
        results-moved place first_place (λ p. p) 0 0 before (λ u p lt. ap (λ s. place s p) (omega arith) ∙ in_first u p (omega arith))
        ∙ moved-stays (λ p. p) (λ p. refl) (results_from first_place call 0 before) in
        let second : results_from place call (0 + length before) others ≡ moved (λ p. n + p) (results_from second_place call 0 others) =
        ap (λ s. results_from place call s others) (omega arith)
        ∙ results-moved place second_place (λ p. n + p) (length before) 0 others (λ u p lt. in_second u p (omega arith)) in
        results-append place 0 before others ∙ (λ i. first i >>= λ rs. after rs (second i))

  -- as many segments before as there are places before
  pub at_segment-two : (before others : List S)
      → one_each at_segment call (Ok (before ++ others)) ≡ in_two (length before) (one_each at_segment call (Ok before)) (one_each at_segment call (Ok others))
  at_segment-two before others = results-two at_segment at_segment at_segment (length before) before others (λ s p lt. refl) (λ s p lt. refl)

pub at_segment-lists : {S X : Type 0} (call : S → Result (List X) Fault) (before others : List S)
    → end_to_end at_segment call (Ok (before ++ others)) ≡ in_two (length before) (end_to_end at_segment call (Ok before)) (end_to_end at_segment call (Ok others))
at_segment-lists call before others =
    rw (at_segment-two call before others) (joined-two (length before) (one_each at_segment call (Ok before)) (one_each at_segment call (Ok others)))

-- ---- values some of which may be missing

-- a missing value's fault stands at its place
pub at_its_place : {Y : Type 0} (number : FaultNo) (place : ℕ) (v : Option Y) → moved (at_segment place) (ok_or v (fault_at number 0)) ≡ ok_or v (fault_at number place)
at_its_place number place None = refl
at_its_place number place (Some y) = refl

module _ {A Y : Type 0} (number : FaultNo) (f : A → Option Y) where
  -- each value is a segment of its own
  pub values-each : (place : ℕ) (xs : List A) → values_from number place (map f xs) ≡ results_from at_segment (λ x. ok_or (f x) (fault_at number 0)) place xs
  values-each place [] = refl
  values-each place (x ∷ xs) = λ i. sym (at_its_place number place (f x)) i >>= λ y. values-each (place + 1) xs i >>= λ ys. Ok (y ∷ ys)

  pub values-two : (xs ys : List A) → values_from number 0 (map f (xs ++ ys)) ≡ in_two (length xs) (values_from number 0 (map f xs)) (values_from number 0 (map f ys))
  values-two xs ys = rw (values-each 0 (xs ++ ys), values-each 0 xs, values-each 0 ys) (at_segment-two (λ x. ok_or (f x) (fault_at number 0)) xs ys)
