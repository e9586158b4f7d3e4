-- Segmented calls on vectors that are cut between two segments.
use Rattle.call_laws.proofs.Cited.{rules, ◌≡◌, ◌+◌, ◌≤◌, ◌∷◌, ◌++◌, ◌∙◌, ℕ, List, [], length, take, drop, refl, ap, arith, length-append, length-drop, Ok, Result, sum, drop-append-le, sum_by-append}
use Rattle.call_laws.proofs.Cited.{take-append-add, nest, cut_of, at_segment, in_vector, one_each, end_to_end, sum-cons, nest-fits, length-cut, drop-drop, drop_at, take-append-le, Fault, in_two}
use Rattle.call_laws.proofs.Segments.{flat-again}
use Rattle.call_laws.proofs.TwoParts.{AreTwo, at_segment-lists, at_segment-two, joined-two, results-two}

-- ---- places in a vector that is cut between two segments

module _ (lengths more : List ℕ) where
  place-first : (s p : ℕ) → s ≤ length lengths → in_vector (lengths ++ more) s p ≡ in_vector lengths s p
  place-first s p within = ap (λ ns. sum ns + p) (take-append-le s lengths more within)

  place-second : (s p : ℕ) → in_vector (lengths ++ more) (length lengths + s) p ≡ sum lengths + in_vector more s p
  place-second s p = omega (arith, ap sum (take-append-add lengths more s), sum_by-append (λ (n : ℕ). n) lengths (take s more))

module _ {S : Type 0} (before others : List S) (lengths more : List ℕ) (one_each_length : length before ≡ length lengths) where
  pub values-between : {R : Type 0} (call : S → Result R Fault)
      → one_each (in_vector (lengths ++ more)) call (Ok (before ++ others)) ≡ in_two (sum lengths) (one_each (in_vector lengths) call (Ok before)) (one_each (in_vector more) call (Ok others))
  values-between call =
      results-two call (in_vector (lengths ++ more)) (in_vector lengths) (in_vector more) (sum lengths) before others
      (λ s p lt. place-first lengths more s p (omega (arith, one_each_length)))
      (λ s p lt. ap (λ n. in_vector (lengths ++ more) (n + s) p) one_each_length ∙ place-second lengths more s p)

  pub lists-between : {X : Type 0} (call : S → Result (List X) Fault)
      → end_to_end (in_vector (lengths ++ more)) call (Ok (before ++ others)) ≡ in_two (sum lengths) (end_to_end (in_vector lengths) call (Ok before)) (end_to_end (in_vector more) call (Ok others))
  lists-between call =
      rw (values-between call) (joined-two (sum lengths) (one_each (in_vector lengths) call (Ok before)) (one_each (in_vector more) call (Ok others)))

-- one segment, and others behind it
pub next-to : {S X : Type 0} (call : S → Result (List X) Fault) (k : ℕ) (more : List ℕ) (one : S) (others : List S)
    → end_to_end (in_vector (k ∷ more)) call (Ok (one ∷ others)) ≡ in_two k (call one) (end_to_end (in_vector more) call (Ok others))
next-to call k more one others =
    lists-between (one ∷ []) others (k ∷ []) more refl call ∙ (λ i. in_two (sum-cons k [] i) (flat-again (k ∷ []) call one i) (end_to_end (in_vector more) call (Ok others)))
    ∙ ap (λ j. in_two j (call one) (end_to_end (in_vector more) call (Ok others))) (omega arith)

-- the arguments of segments in two parts
module _ {S : Type 0} {whole first second : Result (List S) Fault} {k l : ℕ} (two : AreTwo whole first second k l) where
  pub values_in_order : {R : Type 0} (call : S → Result R Fault) (lengths more : List ℕ) → k ≡ length lengths
      → one_each (in_vector (lengths ++ more)) call whole ≡ in_two (sum lengths) (one_each (in_vector lengths) call first) (one_each (in_vector more) call second)
  values_in_order call lengths more same = rw (two.together, two.one, two.other) (values-between two.before two.others lengths more (two.many ∙ same) call)

  pub in_order : {X : Type 0} (call : S → Result (List X) Fault) (lengths more : List ℕ) → k ≡ length lengths
      → end_to_end (in_vector (lengths ++ more)) call whole ≡ in_two (sum lengths) (end_to_end (in_vector lengths) call first) (end_to_end (in_vector more) call second)
  in_order call lengths more same = rw (two.together, two.one, two.other) (lists-between two.before two.others lengths more (two.many ∙ same) call)

  pub values_by_segment : {R : Type 0} (call : S → Result R Fault) → one_each at_segment call whole ≡ in_two k (one_each at_segment call first) (one_each at_segment call second)
  values_by_segment call = rw (two.together, two.one, two.other, ← two.many) (at_segment-two call two.before two.others)

  pub by_segment : {X : Type 0} (call : S → Result (List X) Fault) → end_to_end at_segment call whole ≡ in_two k (end_to_end at_segment call first) (end_to_end at_segment call second)
  by_segment call = rw (two.together, two.one, two.other, ← two.many) (at_segment-lists call two.before two.others)

-- ---- vectors

-- the first lengths, and the others of what is left
pub cut-append : {X : Type 0} (lengths more : List ℕ) (xs : List X) → cut_of (lengths ++ more) xs ≡ cut_of lengths xs ++ cut_of more (drop (sum lengths) xs)
cut-append [] more xs = refl
cut-append (n ∷ lengths) more xs = search (rules, drop-drop, sum-cons, cut-append lengths more (drop n xs))

pub cut-front : {X : Type 0} (lengths : List ℕ) (xs ys : List X) → sum lengths ≤ length xs → cut_of lengths (xs ++ ys) ≡ cut_of lengths xs
cut-front [] xs ys within = refl
cut-front (n ∷ lengths) xs ys within = search (rules, sum-cons, take-append-le, drop-append-le, length-drop, cut-front lengths (drop n xs) ys (omega (arith, sum-cons n lengths, length-drop n xs)))

module _ {X : Type 0} (lengths more : List ℕ) (xs ys : List X) (total : sum lengths ≡ length xs) (also_total : sum more ≡ length ys) where
  pub nest-between : nest (lengths ++ more) (xs ++ ys) ≡ Ok (cut_of lengths xs ++ cut_of more ys)
  nest-between = search (rules, nest-fits, sum_by-append, length-append, cut-append, cut-front, drop_at)

  pub cut : {k l : ℕ} → length lengths ≡ k → length more ≡ l → AreTwo (nest (lengths ++ more) (xs ++ ys)) (nest lengths xs) (nest more ys) k l
  cut many also_many = record {
    before = cut_of lengths xs;
    others = cut_of more ys;
    together = nest-between;
    one = nest-fits lengths xs total;
    other = nest-fits more ys also_total;
    many = length-cut lengths xs ∙ many;
    also_many = length-cut more ys ∙ also_many;
  }
