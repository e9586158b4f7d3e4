-- How many runs there are, element by element, and that they are the list again.
use Rattle.std.proofs.Common.{◌≡◌, ◌∙◌, ℕ, suc, ◌+◌, ◌<◌, ◌≤◌, Bool, true, false, cond, if◌then◌else◌, List, [], ◌∷◌, length, drop, get_or, refl, ap, arith, subst}
use Rattle.std.proofs.lemmas.List.{drop_all}
use Rattle.cvl_base.specs.Lists.{joined}
use Rattle.cvl_base.proofs.Lists.{uncons}
use Rattle.run_lengths.specs.Runs.{onto_first, runs_from, runs_of}

module _ {X : Type 0} where
  pub onto_long : (x : X) (runs : List (List X)) → length (onto_first x runs) ≡ length runs
  onto_long x [] = refl
  onto_long x (run ∷ runs) = refl

  onto_joined : (x : X) (runs : List (List X)) → 1 ≤ length runs → joined (onto_first x runs) ≡ x ∷ joined runs
  onto_joined x [] some = let none : 1 ≤ 0 = some in absurd (omega (arith, none))
  onto_joined x (run ∷ runs) some = refl

  -- the runs with one element more, which begins one if b holds
  abbrev pub begun : Bool → X → List (List X) → List (List X)
  begun b x runs = if b then (x ∷ []) ∷ runs else onto_first x runs

  begun_long : (b : Bool) (x : X) (runs : List (List X)) → length (begun b x runs) ≡ cond b 1 0 + length runs
  begun_long true x runs = let one_more : suc (length runs) ≡ 1 + length runs = omega arith in one_more
  begun_long false x runs = let as_many : length (onto_first x runs) ≡ 0 + length runs = omega (arith, onto_long x runs) in as_many

  pub begun_some : (b : Bool) (x : X) (runs : List (List X)) → 1 ≤ length runs → 1 ≤ length (begun b x runs)
  begun_some true x runs some = let more : 1 ≤ suc (length runs) = omega arith in more
  begun_some false x runs some = let more : 1 ≤ length (onto_first x runs) = omega (arith, some, onto_long x runs) in more

  begun_most : (b : Bool) (x : X) (runs : List (List X)) (n : ℕ) → length runs ≤ n → length (begun b x runs) ≤ 1 + n
  begun_most true x runs n most = let more : suc (length runs) ≤ 1 + n = omega (arith, most) in more
  begun_most false x runs n most = let more : length (onto_first x runs) ≤ 1 + n = omega (arith, most, onto_long x runs) in more

  begun_joined : (b : Bool) (x : X) (runs : List (List X)) → 1 ≤ length runs → joined (begun b x runs) ≡ x ∷ joined runs
  begun_joined true x runs some = refl
  begun_joined false x runs some = onto_joined x runs some

module _ {X : Type 0} (differ : X → X → Bool) where
  -- one neighbour more is one run more if they differ
  pub one_more : (x y : X) (ys : List X) → length (runs_from differ x (y ∷ ys)) ≡ cond (differ x y) 1 0 + length (runs_from differ y ys)
  one_more x y ys = begun_long (differ x y) x (runs_from differ y ys)

  pub some_run : (x : X) (xs : List X) → 1 ≤ length (runs_from differ x xs)
  some_run x [] = let one : 1 ≤ 1 = omega arith in one
  some_run x (y ∷ ys) = begun_some (differ x y) x (runs_from differ y ys) (some_run y ys)

  most_from : (x : X) (xs : List X) → length (runs_from differ x xs) ≤ 1 + length xs
  most_from x [] = let one : 1 ≤ 1 + 0 = omega arith in one
  most_from x (y ∷ ys) =
      let same : 1 + (1 + length ys) ≡ 1 + length (y ∷ ys) = omega arith in
      subst (λ n. length (runs_from differ x (y ∷ ys)) ≤ n) same (begun_most (differ x y) x (runs_from differ y ys) (1 + length ys) (most_from y ys))

  -- no more runs than elements
  pub most_runs : (xs : List X) → length (runs_of differ xs) ≤ length xs
  most_runs [] = let none : 0 ≤ 0 = omega arith in none
  most_runs (x ∷ xs) =
      let same : 1 + length xs ≡ length (x ∷ xs) = omega arith in subst (λ n. length (runs_from differ x xs) ≤ n) same (most_from x xs)

  joined_from : (x : X) (xs : List X) → joined (runs_from differ x xs) ≡ x ∷ xs
  joined_from x [] = refl
  joined_from x (y ∷ ys) = begun_joined (differ x y) x (runs_from differ y ys) (some_run y ys) ∙ ap (λ zs. x ∷ zs) (joined_from y ys)

  -- one after another they are the list
  pub joined_runs : (xs : List X) → joined (runs_of differ xs) ≡ xs
  joined_runs [] = refl
  joined_runs (x ∷ xs) = joined_from x xs

-- the count has come to element k, behind `last`
pub record IsCounted {X : Type 0} (differ : X → X → Bool) (a : List X) (k count : ℕ) (last : X) : Type 0 where
  pub within : k ≤ length a
  pub few : count ≤ k
  pub left : count + length (runs_from differ last (drop k a)) ≡ length (runs_of differ a) + 1

at_most_one : (b : Bool) → cond b 1 0 ≤ 1
at_most_one true = let one : 1 ≤ 1 = omega arith in one
at_most_one false = let none : 0 ≤ 1 = omega arith in none

module _ {X : Type 0} (differ : X → X → Bool) where
  pub counted_first : (a : List X) (x : X) → 0 < length a → x ≡ get_or a 0 x → IsCounted differ a 1 1 x
  counted_first [] x some is = let none : 0 < 0 = some in absurd (omega (arith, none))
  counted_first (y ∷ ys) x some is =
      let same : length (runs_from differ x ys) ≡ length (runs_from differ y ys) = ap (λ z. length (runs_from differ z ys)) is in
      let whole : 1 + length (runs_from differ x ys) ≡ length (runs_from differ y ys) + 1 = omega (arith, same) in
      record { within = omega (arith, some); few = omega arith; left = whole }

  pub counted_more : (a : List X) (k count : ℕ) (last : X) → IsCounted differ a k count last → (next : X) → k < length a → next ≡ get_or a k next → (count' : ℕ)
      → count' ≡ count + cond (differ last next) 1 0 → IsCounted differ a (k + 1) count' next
  counted_more a k count last to next lt is count' count_is =
      let rest = drop (k + 1) a in
      let here : length (runs_from differ last (drop k a)) ≡ cond (differ last next) 1 0 + length (runs_from differ next rest) =
      ap (λ xs. length (runs_from differ last xs)) (uncons a k next lt is) ∙ one_more differ last next rest in
      record {
        within = omega (arith, lt);
        few = omega (arith, to.few, count_is, at_most_one (differ last next));
        left = omega (arith, to.left, here, count_is);
      }

  pub counted_all : (a : List X) (k count : ℕ) (last : X) → IsCounted differ a k count last → length a ≤ k → count ≡ length (runs_of differ a)
  counted_all a k count last to past =
      let one : length (runs_from differ last (drop k a)) ≡ 1 = ap (λ xs. length (runs_from differ last xs)) (drop_all k a past) in
      omega (arith, to.left, one)
