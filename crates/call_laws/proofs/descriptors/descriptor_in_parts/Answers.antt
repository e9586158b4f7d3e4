use Rattle.call_laws.proofs.Cited.{◌≡◌, ◌+◌, ◌∷◌, ◌++◌, ◌∙◌, ℕ, Bool, true, false, ℤ, List, [], length, map, sum, refl, ap, arith, Some, None, Ok, Option, Result, cond, nat_lt, option_map, lt-ltb}
use Rattle.call_laws.proofs.Cited.{ltb-true, map-append, sum_by-append, fault, fault_at, unless, fault_if, unsigned_abs, position, is_negative, position_from, position_from-zero, Fault}
use Rattle.call_laws.proofs.Cited.{descriptor_in_two}
use Rattle.cvl_base.specs.declared.fault.FaultNo.TheVariants as no
use Rattle.call_laws.proofs.descriptors.descriptor_in_parts.Goals as goal

-- ---- where the first negative length stands

abbrev or-else : Option ℕ → Option ℕ → Option ℕ
or-else (Some k) other = Some k
or-else None other = other

module _ (test : ℤ → Bool) where
  from-later : (n i : ℕ) (ys : List ℤ) → position_from test (n + i) ys ≡ option_map (λ k. n + k) (position_from test i ys)
  from-later n i [] = refl
  from-later n i (y ∷ ys) = by (test y) (ap (λ m. position_from test m ys) (omega arith) ∙ from-later n (i + 1) ys)
    where
      by : (b : Bool) → position_from test (n + i + 1) ys ≡ option_map (λ k. n + k) (position_from test (i + 1) ys)
          → cond b (Some (n + i)) (position_from test (n + i + 1) ys) ≡ option_map (λ k. n + k) (cond b (Some i) (position_from test (i + 1) ys))
      by true rest = refl
      by false rest = rest

  from-two : (i : ℕ) (xs ys : List ℤ) → position_from test i (xs ++ ys) ≡ or-else (position_from test i xs) (position_from test (i + length xs) ys)
  from-two i [] ys = ap (λ m. position_from test m ys) (omega arith)
  from-two i (x ∷ xs) ys =
      by (test x) (from-two (i + 1) xs ys ∙ ap (λ m. or-else (position_from test (i + 1) xs) (position_from test m ys)) (omega arith))
    where
      by : (b : Bool) → position_from test (i + 1) (xs ++ ys) ≡ or-else (position_from test (i + 1) xs) (position_from test (i + length (x ∷ xs)) ys)
          → cond b (Some i) (position_from test (i + 1) (xs ++ ys)) ≡ or-else (cond b (Some i) (position_from test (i + 1) xs)) (position_from test (i + length (x ∷ xs)) ys)
      by true rest = refl
      by false rest = rest

  position-two : (xs ys : List ℤ) → position test (xs ++ ys) ≡ or-else (position test xs) (option_map (λ k. length xs + k) (position test ys))
  position-two xs ys =
      let at : 0 + length xs ≡ length xs + 0 = omega arith in
      position_from-zero test (xs ++ ys) ∙ from-two 0 xs ys
      ∙ rw (at, from-later (length xs) 0 ys, ← position_from-zero test xs, ← position_from-zero test ys)

-- ---- the definition, at the places of negative lengths and whether the totals are above the limit

abbrev make : Option ℕ → Bool → List ℕ → Result (List ℕ) Fault
make place above sizes = unless (option_map (fault_at no.NegativeLength) place) (fault_if above (fault no.TooLong) (Ok sizes))

two : (most start : ℕ) (p q : Option ℕ) (first second : List ℕ) (above also_above : Bool) → nat_lt most (sum first) ≡ above → nat_lt most (sum second) ≡ also_above
    → make (or-else p (option_map (λ k. start + k) q)) (nat_lt most (sum first + sum second)) (first ++ second)
    ≡ descriptor_in_two most start (make p above first) (make q also_above second)
two most start (Some k) q first second above also_above e f = refl
two most start None (Some k) first second true also_above e f = refl
two most start None (Some k) first second false also_above e f = refl
two most start None None first second true true e f = rw (lt-ltb most (sum first + sum second) (omega (arith, ltb-true most (sum first) e)))
two most start None None first second true false e f = rw (lt-ltb most (sum first + sum second) (omega (arith, ltb-true most (sum first) e)))
two most start None None first second false true e f = rw (lt-ltb most (sum first + sum second) (omega (arith, ltb-true most (sum second) f)))
two most start None None first second false false e f = refl

pub returns : goal.returns
returns c = λ most lengths more.
    rw (position-two is_negative lengths more, map-append unsigned_abs lengths more, sum_by-append (λ n. n) (map unsigned_abs lengths) (map unsigned_abs more))
    (two most (length lengths) (position is_negative lengths) (position is_negative more) (map unsigned_abs lengths) (map unsigned_abs more) _ _ refl refl)
