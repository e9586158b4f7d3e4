-- The walk from segment to segment, which writes a value of each.
use Rattle.std.proofs.Common.{◌≡◌, ◌∙◌, ℕ, ◌+◌, ◌-◌, ◌<◌, ◌≤◌, List, [], ◌∷◌, ◌++◌, length, take, drop, get_or, length-set, map, sum, set, sym, ap, arith, take_all}
use Rattle.std.proofs.lemmas.List.{length-map, map-append, take_more, take_more_set}
use Rattle.std.proofs.lemmas.List.Sums.{sum_by-take-le, sum_by_more}
use Rattle.cvl_base.specs.Nests.{cut_of}
use Rattle.cvl_base.proofs.Nests.{cut_at, length-cut}

-- what is written before segment s, which begins at `first`
pub record IsWritten {X V : Type 0} (value : List X → V) (lengths : List ℕ) (xs : List X) (s first : ℕ) (out : List V) : Type 0 where
  pub first_is : first ≡ sum (take s lengths)
  pub one_each : length out ≡ length lengths
  pub written : take s out ≡ map value (take s (cut_of lengths xs))

module _ {X V : Type 0} {value : List X → V} {lengths : List ℕ} {xs : List X} {s first : ℕ} {out : List V} (to : IsWritten value lengths xs s first out) (total : sum lengths ≡ length xs) where
  module _ (lt : s < length lengths) (n : ℕ) (n_is : n ≡ get_or lengths s 0) where
    pub segment_within : first + n ≤ length xs
    segment_within = omega (arith, to.first_is, n_is, sum_by_more (λ x. x) lengths s 0 lt, sum_by-take-le (λ x. x) lengths (s + 1), total)

    segment_is : take (first + n - first) (drop first xs) ≡ get_or (cut_of lengths xs) s []
    segment_is =
        let wide : first + n - first ≡ get_or lengths s 0 = omega (arith, n_is) in
        (λ i. take (wide i) (drop (to.first_is i) xs)) ∙ sym (cut_at lengths xs s lt)

    pub one_more : (v : V) → v ≡ value (take (first + n - first) (drop first xs)) → IsWritten value lengths xs (s + 1) (first + n) (set out s v)
    one_more v is =
        let cuts = cut_of lengths xs in
        record {
          first_is = omega (arith, to.first_is, n_is, sum_by_more (λ x. x) lengths s 0 lt);
          one_each = length-set out s v ∙ to.one_each;
          written = take_more_set out s v (omega (arith, lt, to.one_each)) ∙ (λ i. to.written i ++ (is ∙ ap value segment_is) i ∷ [])
              ∙ sym (map-append value (take s cuts) (get_or cuts s [] ∷ []))
              ∙ ap (map value) (sym (take_more cuts s [] (omega (arith, lt, length-cut lengths xs))));
        }

  pub all_written : length lengths ≤ s → out ≡ map value (cut_of lengths xs)
  all_written past =
      let cuts = cut_of lengths xs in
      sym (take_all s out (omega (arith, past, to.one_each))) ∙ to.written
      ∙ ap (map value) (take_all s cuts (omega (arith, past, length-cut lengths xs)))

-- a value for each segment
pub values_long : {X V : Type 0} (value : List X → V) (lengths : List ℕ) (xs : List X) → length (map value (cut_of lengths xs)) ≡ length lengths
values_long value lengths xs = length-map (cut_of lengths xs) value ∙ length-cut lengths xs
