-- Runs of a list that comes in parts.
use Rattle.std.proofs.lemmas.Bool.{and_parts, not-true}
use Rattle.call_laws.proofs.Cited.{◌≡◌, ◌+◌, ◌≤◌, ◌∷◌, ◌++◌, ◌∙◌, ℕ, ℤ, not, Bool, true, false, List, [], length, refl, sym, ap, arith, append_assoc, length-append}
use Rattle.call_laws.specs.RunsInParts.{onto_last}
use Rattle.cvl_base.specs.Lists.{joined}
use Rattle.run_lengths.specs.Laws.{do_part, is_run}
use Rattle.run_lengths.specs.Runs.{numbers_from, runs_from, runs_in, runs_of}
use Rattle.run_lengths.proofs.Counted.{begun, some_run}
use Rattle.run_lengths.proofs.Fronts.{numbers-append}

module _ {X : Type 0} where
  -- runs behind others stay as they are
  begun_before : (b : Bool) (x : X) (runs others : List (List X)) → 1 ≤ length runs → begun b x (runs ++ others) ≡ begun b x runs ++ others
  begun_before true x runs others some = refl
  begun_before false x [] others some = let none : 1 ≤ 0 = some in absurd (omega (arith, none))
  begun_before false x (run ∷ runs) others some = refl

  -- an element in front and elements behind the last run do not meet
  begun_longer : (b : Bool) (x : X) (runs : List (List X)) (more : List X) → 1 ≤ length runs → begun b x (onto_last runs more) ≡ onto_last (begun b x runs) more
  begun_longer b x [] more some = let none : 1 ≤ 0 = some in absurd (omega (arith, none))
  begun_longer true x (run ∷ runs) more some = refl
  begun_longer false x (run ∷ []) more some = refl
  begun_longer false x (run ∷ next ∷ runs) more some = refl

module _ {X : Type 0} (differ : X → X → Bool) where
  -- ---- where a run begins

  begins-from : (x : X) (xs ys : List X) → do_part differ (x ∷ xs) ys ≡ true → runs_from differ x (xs ++ ys) ≡ runs_from differ x xs ++ runs_of differ ys
  begins-from x [] [] part = absurd (cc)
  begins-from x [] (y ∷ ys) part = ap (λ b. begun b x (runs_from differ y ys)) part
  begins-from x (z ∷ xs) ys part =
      ap (begun (differ x z) x) (begins-from z xs ys part) ∙ begun_before (differ x z) x (runs_from differ z xs) (runs_of differ ys) (some_run differ z xs)

  pub begins : (xs ys : List X) → do_part differ xs ys ≡ true → runs_of differ (xs ++ ys) ≡ runs_of differ xs ++ runs_of differ ys
  begins [] ys part = refl
  begins (x ∷ xs) ys part = begins-from x xs ys part

  -- ---- where one goes on

  one_run : (x : X) (more : List X) → is_run differ (x ∷ more) ≡ true → runs_from differ x more ≡ (x ∷ more) ∷ []
  one_run x [] is = refl
  one_run x (y ∷ ys) is =
      ap (begun (differ x y) x) (one_run y ys (and_parts (not (differ x y)) (is_run differ (y ∷ ys)) is).1)
      ∙ ap (λ b. begun b x ((y ∷ ys) ∷ [])) (not-true (differ x y) (and_parts (not (differ x y)) (is_run differ (y ∷ ys)) is).0)

  goes_on-from : (z : X) (xs : List X) (last : X) (more : List X) → is_run differ (last ∷ more) ≡ true
      → runs_from differ z ((xs ++ last ∷ []) ++ more) ≡ onto_last (runs_from differ z (xs ++ last ∷ [])) more
  goes_on-from z [] last more is =
      ap (begun (differ z last) z) (one_run last more is) ∙ begun_longer (differ z last) z ((last ∷ []) ∷ []) more (omega arith)
  goes_on-from z (x ∷ xs) last more is =
      ap (begun (differ z x) z) (goes_on-from x xs last more is)
      ∙ begun_longer (differ z x) z (runs_from differ x (xs ++ last ∷ [])) more (some_run differ x (xs ++ last ∷ []))

  pub goes_on : (xs : List X) (last : X) (more : List X) → is_run differ (last ∷ more) ≡ true
      → runs_of differ ((xs ++ last ∷ []) ++ more) ≡ onto_last (runs_of differ (xs ++ last ∷ [])) more
  goes_on [] last more is = one_run last more is
  goes_on (x ∷ xs) last more is = goes_on-from x xs last more is

  -- ---- segments

  pub runs_in-append : (before behind : List (List X)) → runs_in differ (before ++ behind) ≡ runs_in differ before ++ runs_in differ behind
  runs_in-append [] behind = refl
  runs_in-append (segment ∷ before) behind =
      ap (λ runs. runs_of differ segment ++ runs) (runs_in-append before behind)
      ∙ sym (append_assoc (runs_of differ segment) (runs_in differ before) (runs_in differ behind))

-- ---- their numbers

module _ {X : Type 0} (number : ℕ → ℕ → ℤ) where
  last-longer : (runs : List (List X)) (run more : List X) → onto_last (runs ++ run ∷ []) more ≡ runs ++ (run ++ more) ∷ []
  last-longer [] run more = refl
  last-longer (first ∷ []) run more = refl
  last-longer (first ∷ next ∷ runs) run more = ap (λ rs. first ∷ rs) (last-longer (next ∷ runs) run more)

  pub longer : (place : ℕ) (runs : List (List X)) (run more : List X)
      → numbers_from number place (onto_last (runs ++ run ∷ []) more)
      ≡ numbers_from number place runs ++ number (place + length (joined runs)) (length run + length more) ∷ []
  longer place runs run more =
      ap (numbers_from number place) (last-longer runs run more) ∙ numbers-append number place runs ((run ++ more) ∷ [])
      ∙ ap (λ n. numbers_from number place runs ++ number (place + length (joined runs)) n ∷ []) (length-append run more)
