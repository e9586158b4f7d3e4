-- The walk from segment to segment: the runs of those before are counted, and their numbers written.
use Rattle.std.proofs.Common.{◌≡◌, ◌∙◌, ℕ, ◌+◌, ◌-◌, ◌<◌, ◌≤◌, Bool, List, [], ◌∷◌, ◌++◌, length, take, drop, get_or, sum, ℤ, sym, ap, arith, Ok}
use Rattle.std.proofs.Common.{append-nil, append_assoc, length-append, length-drop, length-take-le}
use Rattle.std.proofs.lemmas.List.{drop-drop, drop_all, drop_more, take-append-drop}
use Rattle.std.proofs.lemmas.List.Sums.{sum_by-take-le, sum_by_more}
use Rattle.cvl_base.specs.Gives.{◌>>=◌}
use Rattle.cvl_base.specs.Lists.{joined}
use Rattle.cvl_base.specs.Nests.{cut_of}
use Rattle.cvl_base.proofs.Nests.{cut_at, length-cut, nest-fits}
use Rattle.run_lengths.specs.Runs.{numbers_from, runs_in, runs_of, seg_run_numbers_of}
use Rattle.run_lengths.proofs.Counted.{joined_runs, most_runs}
use Rattle.run_lengths.proofs.Fronts.{numbers-append}

module _ {X : Type 0} (differ : X → X → Bool) where
  -- no more runs than elements
  pub most_in : (lengths : List ℕ) (xs : List X) → length (runs_in differ (cut_of lengths xs)) ≤ length xs
  most_in [] xs = let none : 0 ≤ length xs = omega arith in none
  most_in (n ∷ ns) xs =
      let parts : length (runs_in differ (cut_of (n ∷ ns) xs)) ≡ length (runs_of differ (take n xs)) + length (runs_in differ (cut_of ns (drop n xs))) =
      length-append (runs_of differ (take n xs)) (runs_in differ (cut_of ns (drop n xs))) in
      let elements : length xs ≡ length (take n xs) + length (drop n xs) = ap length (sym (take-append-drop n xs)) ∙ length-append (take n xs) (drop n xs) in
      omega (arith, parts, elements, most_runs differ (take n xs), most_in ns (drop n xs))

-- the calls on segments that add up to the vector
pub seg_runs-fits : {X : Type 0} (number : ℕ → ℕ → ℤ) (differ : X → X → Bool) (xs : List X) (lengths : List ℕ) → sum lengths ≡ length xs
    → seg_run_numbers_of number differ xs lengths ≡ Ok (numbers_from number 0 (runs_in differ (cut_of lengths xs)))
seg_runs-fits number differ xs lengths total = ap (λ r. r >>= λ segments. Ok (numbers_from number 0 (runs_in differ segments))) (nest-fits lengths xs total)

-- the walk has come to segment s, which begins at `first`, and has counted `count` runs
pub record AreCounted {X : Type 0} (differ : X → X → Bool) (lengths : List ℕ) (a : List X) (s first count : ℕ) : Type 0 where
  pub first_is : first ≡ sum (take s lengths)
  pub left : count + length (runs_in differ (drop s (cut_of lengths a))) ≡ length (runs_in differ (cut_of lengths a))

-- and has written their numbers
pub record AreWritten {X : Type 0} (differ : X → X → Bool) (number : ℕ → ℕ → ℤ) (lengths : List ℕ) (a : List X) (s first count : ℕ) (before out : List ℤ) : Type 0 where
  pub counted : AreCounted differ lengths a s first count
  pub as_long : length out ≡ length before
  pub so_far : take count out ++ numbers_from number first (runs_in differ (drop s (cut_of lengths a))) ≡ numbers_from number 0 (runs_in differ (cut_of lengths a))
  pub behind : drop count out ≡ drop count before

-- ---- the next segment

-- n elements from place `first` on
abbrev pub segment_of : {X : Type 0} → ℕ → ℕ → List X → List X
segment_of first n a = take (first + n - first) (drop first a)

module _ {X : Type 0} (lengths : List ℕ) (a : List X) (s first : ℕ) (first_is : first ≡ sum (take s lengths)) (lt : s < length lengths) (n : ℕ)
    (n_is : n ≡ get_or lengths s 0) where
  pub segment_within : sum lengths ≡ length a → first + n ≤ length a
  segment_within total = omega (arith, first_is, n_is, sum_by_more (λ x. x) lengths s 0 lt, sum_by-take-le (λ x. x) lengths (s + 1), total)

  pub segment_long : sum lengths ≡ length a → length (segment_of first n a) ≡ n
  segment_long total = length-take-le (first + n - first) (drop first a) (omega (arith, length-drop first a, segment_within total)) ∙ omega arith

  segment_is : get_or (cut_of lengths a) s [] ≡ segment_of first n a
  segment_is =
      let wide : get_or lengths s 0 ≡ first + n - first = omega (arith, n_is) in
      cut_at lengths a s lt ∙ (λ i. take (wide i) (drop (sym first_is i) a))

  -- its runs come first of those that are left
  pub runs_left : (differ : X → X → Bool) → runs_in differ (drop s (cut_of lengths a)) ≡ runs_of differ (segment_of first n a) ++ runs_in differ (drop (s + 1) (cut_of lengths a))
  runs_left differ =
      ap (runs_in differ) (drop_more (cut_of lengths a) s [] (omega (arith, lt, length-cut lengths a)) ∙ ap (λ xs. xs ∷ drop (s + 1) (cut_of lengths a)) segment_is)

pub next_first : (lengths : List ℕ) (s first : ℕ) → first ≡ sum (take s lengths) → s < length lengths → (n : ℕ) → n ≡ get_or lengths s 0 → first + n ≡ sum (take (s + 1) lengths)
next_first lengths s first first_is lt n n_is = omega (arith, first_is, n_is, sum_by_more (λ x. x) lengths s 0 lt)

-- ---- a segment more, and all of them

module _ {X : Type 0} {differ : X → X → Bool} {lengths : List ℕ} {a : List X} {s first count : ℕ} (to : AreCounted differ lengths a s first count) where
  module _ (lt : s < length lengths) (n : ℕ) (n_is : n ≡ get_or lengths s 0) where
    both_left : length (runs_in differ (drop s (cut_of lengths a))) ≡ length (runs_of differ (segment_of first n a)) + length (runs_in differ (drop (s + 1) (cut_of lengths a)))
    both_left =
        ap length (runs_left lengths a s first to.first_is lt n n_is differ) ∙ length-append (runs_of differ (segment_of first n a)) (runs_in differ (drop (s + 1) (cut_of lengths a)))

    pub next_within : count + length (runs_of differ (segment_of first n a)) ≤ length (runs_in differ (cut_of lengths a))
    next_within = omega (arith, to.left, both_left)

    pub counted_more : (count' : ℕ) → count' ≡ count + length (runs_of differ (segment_of first n a)) → AreCounted differ lengths a (s + 1) (first + n) count'
    counted_more count' count_is = record {
      first_is = next_first lengths s first to.first_is lt n n_is;
      left = omega (arith, count_is, to.left, both_left);
    }

  none_left : length lengths ≤ s → runs_in differ (drop s (cut_of lengths a)) ≡ []
  none_left past = ap (runs_in differ) (drop_all s (cut_of lengths a) (omega (arith, past, length-cut lengths a)))

  pub all_counted : length lengths ≤ s → count ≡ length (runs_in differ (cut_of lengths a))
  all_counted past = let none : length (runs_in differ (drop s (cut_of lengths a))) ≡ 0 = ap length (none_left past) in omega (arith, to.left, none)

module _ {X : Type 0} {differ : X → X → Bool} {number : ℕ → ℕ → ℤ} {lengths : List ℕ} {a : List X} {s first count : ℕ} {before out : List ℤ}
    (to : AreWritten differ number lengths a s first count before out) where
  module _ (total : sum lengths ≡ length a) (lt : s < length lengths) (n : ℕ) (n_is : n ≡ get_or lengths s 0) where
    long : length (joined (runs_of differ (segment_of first n a))) ≡ n
    long = ap length (joined_runs differ (segment_of first n a)) ∙ segment_long lengths a s first to.counted.first_is lt n n_is total

    pub written_more : (count' : ℕ) (new : List ℤ) → count' ≡ count + length (runs_of differ (segment_of first n a)) → length new ≡ length out
        → take count' new ≡ take count out ++ numbers_from number first (runs_of differ (segment_of first n a))
        → drop count' new ≡ drop count' out → AreWritten differ number lengths a (s + 1) (first + n) count' before new
    written_more count' new count_is same now as_before = record {
      counted = counted_more to.counted lt n n_is count' count_is;
      as_long = same ∙ to.as_long;
      so_far =
          ap (λ front. front ++ numbers_from number (first + n) (runs_in differ (drop (s + 1) (cut_of lengths a)))) now
          ∙ append_assoc (take count out) (numbers_from number first (runs_of differ (segment_of first n a))) (numbers_from number (first + n) (runs_in differ (drop (s + 1) (cut_of lengths a))))
          ∙ ap (λ m. take count out ++ (numbers_from number first (runs_of differ (segment_of first n a))
          ++ numbers_from number (first + m) (runs_in differ (drop (s + 1) (cut_of lengths a))))) (sym long)
          ∙ ap (λ ns. take count out ++ ns) (sym (numbers-append number first (runs_of differ (segment_of first n a)) (runs_in differ (drop (s + 1) (cut_of lengths a)))))
          ∙ ap (λ runs. take count out ++ numbers_from number first runs) (sym (runs_left lengths a s first to.counted.first_is lt n n_is differ)) ∙ to.so_far;
      behind =
          as_before ∙ ap (λ m. drop m out) count_is ∙ sym (drop-drop (length (runs_of differ (segment_of first n a))) count out) ∙ ap (drop (length (runs_of differ (segment_of first n a)))) to.behind
          ∙ drop-drop (length (runs_of differ (segment_of first n a))) count before ∙ ap (λ m. drop m before) (sym count_is);
    }

  pub all_written : length lengths ≤ s → take count out ≡ numbers_from number 0 (runs_in differ (cut_of lengths a))
  all_written past =
      sym (append-nil (take count out)) ∙ ap (λ runs. take count out ++ numbers_from number first runs) (sym (none_left to.counted past)) ∙ to.so_far
