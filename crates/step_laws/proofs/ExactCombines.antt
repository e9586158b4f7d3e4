-- Combining permutes by segments by sums that never wrap: each is made of those on its parts.
use Rattle.std.proofs.Common.{◌≡◌, ◌∙◌, ◌+◌, ◌≤◌, ℕ, ℤ, Bool, true, false, List, [], ◌∷◌, length, map, Result, Ok, Option, Some, None, refl, sym, ap}
use Rattle.std.proofs.Common.{if◌then◌else◌}
use Rattle.std.proofs.lemmas.List.{map-id}
use Rattle.std.proofs.lemmas.Option.{none-some, same_Some}
use Rattle.std.specs.Prelude.{◌+ℤ◌}
use Rattle.std.specs.Result.{result_ok}
use Rattle.combining_permutes.specs.CombiningPermutes.{seg_combine_of}
use Rattle.cvl_base.specs.CheckedSums.{fitting}
use Rattle.cvl_base.specs.declared.fault.Fault.{Fault}
use Rattle.cvl_base.specs.declared.fault.FaultNo.{FaultNo}
use Rattle.cvl_base.specs.declared.fault.FaultNo.TheVariants as no
use Rattle.cvl_base.specs.Elementwise.{values_from}
use Rattle.cvl_base.specs.Gives.{◌>>=◌}
use Rattle.cvl_base.specs.Limits.{most_places}
use Rattle.cvl_base.specs.Lists.{joined}
use Rattle.exact_combines.specs.ExactCombines.{seg_checked_combine_of, seg_exact_sums_of}
use Rattle.long_sums.specs.LongSums.{may_grow}
use Rattle.long_sums.specs.RoomSums.{all_growing, growing}
use Rattle.c_calls.specs.Calls.{by_segments, in_limit, lengths_of}
use Rattle.call_laws.proofs.TwoParts.{from_value}
use Rattle.step_laws.proofs.ByElement.{made-elements}
use Rattle.step_laws.proofs.BySegments.{by-limit, sizes}
use Rattle.step_laws.proofs.Families.{by-two, made-combined}
use Rattle.step_laws.specs.SegmentCalls.{AddUp, AsMany, IsMadeOf, of_all}

-- ---- a look at the rooms, and then a call

module _ {P Y : Type 0} (room : P → List Y) (look : List Y → Result (List Y) Fault) (same : (xs ys : List Y) → look xs ≡ Ok ys → ys ≡ xs) (own : P → List Y → Result (List Y) Fault) where
  looked : (parts : List P) (lists : List (List Y)) → map (λ p. look (room p) >>= own p) parts ≡ map (λ l. Ok l) lists
      → (map (λ p. look (room p)) parts ≡ map (λ l. Ok l) (map room parts)) × (map (λ p. own p (room p)) parts ≡ map (λ l. Ok l) lists)
  looked [] [] are = (refl, refl)
  looked [] (l ∷ lists) are = cc
  looked (p ∷ parts) [] are = cc
  looked (p ∷ parts) (l ∷ lists) are =
      let here : (look (room p) >>= own p) ≡ Ok l = cc in
      let more : map (λ q. look (room q) >>= own q) parts ≡ map (λ m. Ok m) lists = cc in
      let value = from_value (look (room p)) (own p) l here in
      let is : value.0 ≡ room p = same (room p) value.0 value.1 in
      let rest = looked parts lists more in
      ((λ i. (value.1 ∙ ap (λ zs. Ok zs) is) i ∷ rest.0 i), (λ i. (ap (own p) (sym is) ∙ value.2) i ∷ rest.1 i))

  look-each : (parts : List P) (seen lists : List (List Y)) → map (λ p. look (room p)) parts ≡ map (λ l. Ok l) seen → map (λ p. own p (room p)) parts ≡ map (λ l. Ok l) lists
      → map (λ p. look (room p) >>= own p) parts ≡ map (λ l. Ok l) lists
  look-each [] seen lists looks calls = calls
  look-each (p ∷ parts) [] lists looks calls = cc
  look-each (p ∷ parts) (s ∷ seen) [] looks calls = cc
  look-each (p ∷ parts) (s ∷ seen) (l ∷ lists) looks calls =
      let first : look (room p) ≡ Ok s = cc in
      let second : own p (room p) ≡ Ok l = cc in
      let looks_on : map (λ q. look (room q)) parts ≡ map (λ m. Ok m) seen = cc in
      let calls_on : map (λ q. own q (room q)) parts ≡ map (λ m. Ok m) lists = cc in
      (λ i. ((λ j. first j >>= own p) ∙ ap (own p) (same (room p) s first) ∙ second) i ∷ look-each parts seen lists looks_on calls_on i)

  made-then : (parts : List P) (whole : List Y → Result (List Y) Fault) → IsMadeOf (look (joined (map room parts))) (map (λ p. look (room p)) parts)
      → IsMadeOf (whole (joined (map room parts))) (map (λ p. own p (room p)) parts)
      → IsMadeOf (look (joined (map room parts)) >>= whole) (map (λ p. look (room p) >>= own p) parts)
  made-then parts whole looks calls = record {
    all = λ lists are.
        let seen = looked parts lists are in (λ i. looks.all (map room parts) seen.0 i >>= whole) ∙ calls.all lists seen.1;
    each = λ ys is.
        let value = from_value (look (joined (map room parts))) whole ys is in
        let whole_is : whole (joined (map room parts)) ≡ Ok ys = ap whole (sym (same (joined (map room parts)) value.0 value.1)) ∙ value.2 in
        let seen = looks.each value.0 value.1 in
        let each = calls.each ys whole_is in
        (each.0, look-each parts seen.0 each.0 seen.1 each.1, each.2);
  }

-- ---- a call, and then a value for each element that it gives

module _ {A Y : Type 0} (number : FaultNo) (f : A → Option Y) where
  abbrev values : List A → Result (List Y) Fault
  values xs = values_from number 0 (map f xs)

  module _ {P : Type 0} (own : P → Result (List A) Fault) where
    given-lists : (parts : List P) (lists : List (List Y)) → map (λ p. own p >>= values) parts ≡ map (λ l. Ok l) lists
        → (given : List (List A)) × (map own parts ≡ map (λ l. Ok l) given) × (map values given ≡ map (λ l. Ok l) lists)
    given-lists [] [] are = ([], refl, refl)
    given-lists [] (l ∷ lists) are = cc
    given-lists (p ∷ parts) [] are = cc
    given-lists (p ∷ parts) (l ∷ lists) are =
        let here : (own p >>= values) ≡ Ok l = cc in
        let more : map (λ q. own q >>= values) parts ≡ map (λ m. Ok m) lists = cc in
        let value = from_value (own p) values l here in
        let rest = given-lists parts lists more in
        (value.0 ∷ rest.0, (λ i. value.1 i ∷ rest.1 i), (λ i. value.2 i ∷ rest.2 i))

    lists-given : (parts : List P) (given : List (List A)) (lists : List (List Y)) → map own parts ≡ map (λ l. Ok l) given → map values given ≡ map (λ l. Ok l) lists
        → map (λ p. own p >>= values) parts ≡ map (λ l. Ok l) lists
    lists-given [] [] lists are valued = valued
    lists-given [] (g ∷ given) lists are valued = cc
    lists-given (p ∷ parts) [] lists are valued = cc
    lists-given (p ∷ parts) (g ∷ given) [] are valued = cc
    lists-given (p ∷ parts) (g ∷ given) (l ∷ lists) are valued =
        let here : own p ≡ Ok g = cc in
        let more : map own parts ≡ map (λ m. Ok m) given = cc in
        let first : values g ≡ Ok l = cc in
        let rest : map values given ≡ map (λ m. Ok m) lists = cc in
        (λ i. ((λ j. here j >>= values) ∙ first) i ∷ lists-given parts given lists more rest i)

    made-after : (parts : List P) (whole : Result (List A) Fault) → IsMadeOf whole (map own parts) → IsMadeOf (whole >>= values) (map (λ p. own p >>= values) parts)
    made-after parts whole made = record {
      all = λ lists are.
          let given = given-lists parts lists are in
          (λ i. made.all given.0 given.1 i >>= values) ∙ ap (λ gs. values (joined gs)) (sym (map-id given.0)) ∙ (made-elements number f (λ g. g) given.0).all lists given.2;
      each = λ ys is.
          let value = from_value whole values ys is in
          let given = made.each value.0 value.1 in
          let valued : values (joined (map (λ g. g) given.0)) ≡ Ok ys = ap (λ gs. values (joined gs)) (map-id given.0) ∙ ap values (sym given.2) ∙ value.2 in
          let lists = (made-elements number f (λ g. g) given.0).each ys valued in
          (lists.0, lists-given parts given.0 lists.0 given.1 lists.1, lists.2);
    }

-- ---- sums that may grow stay as they are

grown : (k : ℕ) (sums ys : List ℤ) → values_from no.Overflow k (map growing sums) ≡ Ok ys → ys ≡ sums
grown k [] ys is = sym (same_Some [] ys (ap result_ok is))
grown k (s ∷ sums) ys is = by (may_grow s) (grown (k + 1) sums) is
  where
    by : (b : Bool) → ((zs : List ℤ) → values_from no.Overflow (k + 1) (map growing sums) ≡ Ok zs → zs ≡ sums)
        → values_from no.Overflow k ((if b then Some s else None) ∷ map growing sums) ≡ Ok ys → ys ≡ s ∷ sums
    by true others given =
        let value = from_value (values_from no.Overflow (k + 1) (map growing sums)) (λ zs. Ok (s ∷ zs)) ys given in
        sym (same_Some (s ∷ value.0) ys (ap result_ok value.2)) ∙ ap (λ zs. s ∷ zs) (others value.0 value.1)
    by false others given = absurd (none-some ys (ap result_ok given))

-- ---- the calls

module _ {P : Type 0} (parts : List P) (lengths others : P → List ℤ) (segments also : List ℕ) (are : lengths_of (of_all lengths parts) ≡ Ok segments)
    (are_also : lengths_of (of_all others parts) ≡ Ok also) (many : AsMany lengths others parts) (source index room : P → List ℤ) (sources : AddUp lengths source parts)
    (indices : AddUp lengths index parts) (rooms : AddUp others room parts) (few : length (of_all index parts) ≤ most_places) (few_places : length (of_all room parts) ≤ most_places) where
  added : IsMadeOf (seg_combine_of ◌+ℤ◌ (of_all source parts) (of_all index parts) (joined (map (sizes lengths) parts)) (joined (map (sizes others) parts)) (of_all room parts))
      (map (λ p. seg_combine_of ◌+ℤ◌ (source p) (index p) (sizes lengths p) (sizes others p) (room p)) parts)
  added = made-combined parts lengths others segments also are are_also many index indices source room sources rooms ◌+ℤ◌

  pub exact-sums : IsMadeOf (by_segments (of_all lengths parts) (λ d. by_segments (of_all others parts)
      (λ e. in_limit (of_all index parts) (in_limit (of_all room parts) (seg_exact_sums_of (of_all source parts) (of_all index parts) d e (of_all room parts))))))
      (map (λ p. by_segments (lengths p) (λ d. by_segments (others p) (λ e. in_limit (index p) (in_limit (room p) (seg_exact_sums_of (source p) (index p) d e (room p)))))) parts)
  exact-sums =
      let all = joined (map (sizes lengths) parts) in let more = joined (map (sizes others) parts) in
      let S = of_all source parts in let I = of_all index parts in let R = of_all room parts in
      by-two parts lengths others segments also are are_also many (λ d e. in_limit I (in_limit R (seg_exact_sums_of S I d e R)))
      (λ p d e. in_limit (index p) (in_limit (room p) (seg_exact_sums_of (source p) (index p) d e (room p))))
      (by-limit index parts (in_limit R (seg_exact_sums_of S I all more R)) (λ p. in_limit (room p) (seg_exact_sums_of (source p) (index p) (sizes lengths p) (sizes others p) (room p))) few
      (by-limit room parts (seg_exact_sums_of S I all more R) (λ p. seg_exact_sums_of (source p) (index p) (sizes lengths p) (sizes others p) (room p)) few_places
      (made-then room (all_growing 0) (grown 0) (λ p. seg_combine_of ◌+ℤ◌ (source p) (index p) (sizes lengths p) (sizes others p)) parts (seg_combine_of ◌+ℤ◌ S I all more)
      (made-elements no.Overflow growing room parts) added)))

  pub checked-sums : IsMadeOf (by_segments (of_all lengths parts) (λ d. by_segments (of_all others parts)
      (λ e. in_limit (of_all index parts) (in_limit (of_all room parts) (seg_checked_combine_of (of_all source parts) (of_all index parts) d e (of_all room parts))))))
      (map (λ p. by_segments (lengths p) (λ d. by_segments (others p) (λ e. in_limit (index p) (in_limit (room p) (seg_checked_combine_of (source p) (index p) d e (room p)))))) parts)
  checked-sums =
      let all = joined (map (sizes lengths) parts) in let more = joined (map (sizes others) parts) in
      let S = of_all source parts in let I = of_all index parts in let R = of_all room parts in
      by-two parts lengths others segments also are are_also many (λ d e. in_limit I (in_limit R (seg_checked_combine_of S I d e R)))
      (λ p d e. in_limit (index p) (in_limit (room p) (seg_checked_combine_of (source p) (index p) d e (room p))))
      (by-limit index parts (in_limit R (seg_checked_combine_of S I all more R)) (λ p. in_limit (room p) (seg_checked_combine_of (source p) (index p) (sizes lengths p) (sizes others p) (room p))) few
      (by-limit room parts (seg_checked_combine_of S I all more R) (λ p. seg_checked_combine_of (source p) (index p) (sizes lengths p) (sizes others p) (room p)) few_places
      (made-after no.Overflow fitting (λ p. seg_combine_of ◌+ℤ◌ (source p) (index p) (sizes lengths p) (sizes others p) (room p)) parts (seg_combine_of ◌+ℤ◌ S I all more R) added)))
