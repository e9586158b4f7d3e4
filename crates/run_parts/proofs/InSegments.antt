-- The walk from segment to segment of a part, as far as the part has elements.
use Rattle.std.proofs.Common.{◌≡◌, ◌∙◌, ℕ, ◌+◌, ◌-◌, ◌<◌, ◌≤◌, min, Bool, List, [], ◌∷◌, ◌++◌, length, map, take, drop, get_or, set, ℤ, pos, refl, sym, ap, arith, append-nil, append_assoc}
use Rattle.std.proofs.Common.{length-append}
use Rattle.std.proofs.lemmas.List.{drop-drop, drop_all, drop_min, drop_more, length-drop, length-take-le, map-append, take_all, take_min, take_more_set}
use Rattle.cvl_base.specs.Nests.{cut_of}
use Rattle.run_lengths.specs.Runs.{run_count_of, runs_in, runs_of}
use Rattle.run_lengths.proofs.Counted.{most_runs}
use Rattle.run_parts.specs.Runs.{lengths_of_runs}

-- the elements from one place up to another
abbrev pub segment_of : {X : Type 0} → ℕ → ℕ → List X → List X
segment_of first next a = take (next - first) (drop first a)

-- the segments that are left once the walk has come to one of them: it, and those behind it
module _ {X : Type 0} (lengths : List ℕ) (a : List X) (s first n next : ℕ) (within : first ≤ length a) (lt : s < length lengths) (n_is : n ≡ get_or lengths s 0)
    (next_is : next ≡ first + min n (length a - first)) where
  pub next_within : next ≤ length a
  next_within = omega (arith, within, next_is)

  pub segment_long : length (segment_of first next a) ≡ next - first
  segment_long = length-take-le (next - first) (drop first a) (omega (arith, length-drop first a, next_is, within))

  pub segments_left : cut_of (drop s lengths) (drop first a) ≡ segment_of first next a ∷ cut_of (drop (s + 1) lengths) (drop next a)
  segments_left =
      let ys = drop first a in
      let least : next - first ≡ min n (length ys) = omega (arith, next_is, length-drop first a) in
      let own : take n ys ≡ segment_of first next a = sym (take_min n ys) ∙ ap (λ m. take m ys) (sym least) in
      let others : drop n ys ≡ drop next a = sym (drop_min n ys) ∙ drop-drop (min n (length ys)) first a ∙ ap (λ m. drop m a) (omega (arith, next_is, length-drop first a)) in
      ap (λ ns. cut_of ns ys) (drop_more lengths s 0 lt ∙ ap (λ m. m ∷ drop (s + 1) lengths) (sym n_is))
      ∙ (λ i. own i ∷ cut_of (drop (s + 1) lengths) (others i))

-- the walk has come to segment s, which begins at `first`, and has written the lengths of the runs before, up to the place `end`
pub record AreWritten {X : Type 0} (differ : X → X → Bool) (lengths : List ℕ) (a : List X) (s first from end : ℕ) (before out : List ℤ) : Type 0 where
  pub within : first ≤ length a
  pub few : end ≤ from + first
  pub left : end + length (runs_in differ (cut_of (drop s lengths) (drop first a))) ≡ from + length (runs_in differ (cut_of lengths a))
  pub as_long : length out ≡ length before
  pub so_far : take end out ++ lengths_of_runs (runs_in differ (cut_of (drop s lengths) (drop first a))) ≡ take from before ++ lengths_of_runs (runs_in differ (cut_of lengths a))
  pub behind : drop end out ≡ drop end before

pub begun : {X : Type 0} (differ : X → X → Bool) (lengths : List ℕ) (a : List X) (from : ℕ) (before : List ℤ) → AreWritten differ lengths a 0 0 from from before before
begun differ lengths a from before = record { within = omega arith; few = omega arith; left = refl; as_long = refl; so_far = refl; behind = refl }

module _ {X : Type 0} {differ : X → X → Bool} {lengths : List ℕ} {a : List X} {s first from end : ℕ} {before out : List ℤ} (to : AreWritten differ lengths a s first from end before out) where
  module _ (lt : s < length lengths) (n next : ℕ) (n_is : n ≡ get_or lengths s 0) (next_is : next ≡ first + min n (length a - first)) where
    pub written_more : (end' : ℕ) (new : List ℤ) → end' ≡ end + length (runs_of differ (segment_of first next a)) → length new ≡ length out
        → take end' new ≡ take end out ++ lengths_of_runs (runs_of differ (segment_of first next a)) → drop end' new ≡ drop end' out
        → AreWritten differ lengths a (s + 1) next from end' before new
    written_more end' new end_is same now as_before =
        let own = runs_of differ (segment_of first next a) in
        let others = runs_in differ (cut_of (drop (s + 1) lengths) (drop next a)) in
        let cuts = segments_left lengths a s first n next to.within lt n_is next_is in
        let both : runs_in differ (cut_of (drop s lengths) (drop first a)) ≡ own ++ others = ap (runs_in differ) cuts in
        record {
          within = next_within lengths a s first n next to.within lt n_is next_is;
          few = omega (arith, to.few, end_is, most_runs differ (segment_of first next a), segment_long lengths a s first n next to.within lt n_is next_is, next_is);
          left = omega (arith, end_is, to.left, ap length both, length-append own others);
          as_long = same ∙ to.as_long;
          so_far =
              ap (λ front. front ++ lengths_of_runs others) now ∙ append_assoc (take end out) (lengths_of_runs own) (lengths_of_runs others)
              ∙ ap (λ ns. take end out ++ ns) (sym (map-append (λ run. pos (length run)) own others))
              ∙ ap (λ runs. take end out ++ lengths_of_runs runs) (sym both) ∙ to.so_far;
          behind =
              as_before ∙ ap (λ m. drop m out) end_is ∙ sym (drop-drop (length own) end out) ∙ ap (drop (length own)) to.behind
              ∙ drop-drop (length own) end before ∙ ap (λ m. drop m before) (sym end_is);
        }

  none_left : length lengths ≤ s → runs_in differ (cut_of (drop s lengths) (drop first a)) ≡ []
  none_left past = ap (λ ns. runs_in differ (cut_of ns (drop first a))) (drop_all s lengths past)

  pub all_counted : length lengths ≤ s → end ≡ from + length (runs_in differ (cut_of lengths a))
  all_counted past = let none : length (runs_in differ (cut_of (drop s lengths) (drop first a))) ≡ 0 = ap length (none_left past) in omega (arith, to.left, none)

  pub all_written : length lengths ≤ s → take end out ≡ take from before ++ lengths_of_runs (runs_in differ (cut_of lengths a))
  all_written past =
      sym (append-nil (take end out)) ∙ ap (λ runs. take end out ++ lengths_of_runs runs) (sym (none_left past)) ∙ to.so_far

-- ---- counts

-- the walk has come to segment s, which begins at `first`, and has written the counts of those before
pub record AreCounted {X : Type 0} (differ : X → X → Bool) (lengths : List ℕ) (a : List X) (s first : ℕ) (out : List ℤ) : Type 0 where
  pub within : first ≤ length a
  pub so_far : take s out ++ map (run_count_of differ) (cut_of (drop s lengths) (drop first a)) ≡ map (run_count_of differ) (cut_of lengths a)

module _ {X : Type 0} {differ : X → X → Bool} {lengths : List ℕ} {a : List X} {s first : ℕ} {out : List ℤ} (to : AreCounted differ lengths a s first out) where
  pub counted_more : (lt : s < length lengths) (n next : ℕ) (n_is : n ≡ get_or lengths s 0) (next_is : next ≡ first + min n (length a - first)) → length out ≡ length lengths
      → (count : ℤ) → count ≡ run_count_of differ (segment_of first next a) → AreCounted differ lengths a (s + 1) next (set out s count)
  counted_more lt n next n_is next_is room count count_is =
      let others = map (run_count_of differ) (cut_of (drop (s + 1) lengths) (drop next a)) in
      record {
        within = next_within lengths a s first n next to.within lt n_is next_is;
        so_far =
            ap (λ front. front ++ others) (take_more_set out s count (omega (arith, lt, room)) ∙ ap (λ z. take s out ++ z ∷ []) count_is)
            ∙ append_assoc (take s out) (run_count_of differ (segment_of first next a) ∷ []) others
            ∙ ap (λ segments. take s out ++ map (run_count_of differ) segments) (sym (segments_left lengths a s first n next to.within lt n_is next_is)) ∙ to.so_far;
      }

  pub each_counted : length lengths ≤ s → length out ≤ s → out ≡ map (run_count_of differ) (cut_of lengths a)
  each_counted past room =
      sym (take_all s out room) ∙ sym (append-nil (take s out))
      ∙ ap (λ ns. take s out ++ map (run_count_of differ) (cut_of ns (drop first a))) (sym (drop_all s lengths past)) ∙ to.so_far
