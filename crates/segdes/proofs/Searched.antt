-- A binary search among the starts, which do not fall.
use Rattle.segdes.proofs.Cited.{◌≡◌, ℕ, ◌+◌, ◌-◌, ◌<◌, ◌≤◌, true, false, List, length, get_or, take, ap, subst, arith, ltb, ltb-true, ltb-false, inl, inr, sum, nil_from_length, take-take, take_all}
use Rattle.segdes.proofs.Cited.{sum_by-take-le, sum_by_more}
use Rattle.std.specs.List.Sorted.{IsNonDecreasingBy, IsPartitionPoint}
use Rattle.std.proofs.lemmas.Bool.{cases_lt}
use Rattle.std.proofs.lemmas.Grind.{get_or_default_zero}
use Rattle.segdes.specs.Starts.{AreStarts, Spans, start_of}

pub start_of_mono : (ns : List ℕ) (i j : ℕ) → i ≤ j → start_of ns i ≤ start_of ns j
start_of_mono ns i j le = subst (λ (xs : List ℕ). sum xs ≤ sum (take j ns)) (take-take i j ns le) (sum_by-take-le (λ x. x) (take j ns) i)

pub at_start : (ns starts : List ℕ) (s d : ℕ) → AreStarts ns starts → s < length starts → get_or starts s d ≡ start_of ns s
at_start ns starts s d are lt = omega (arith, get_or_default_zero starts s d lt, are.sums s (omega (arith, are.one_each)))

pub starts_rise : (ns starts : List ℕ) → AreStarts ns starts → IsNonDecreasingBy (λ n. n) starts
starts_rise ns starts are i j d le lt =
    omega (arith, at_start ns starts i d are (omega arith), at_start ns starts j d are lt, start_of_mono ns i j le)

-- what a search for a place found
pub before_found : (ns starts : List ℕ) (place r : ℕ) → AreStarts ns starts → r ≤ length starts
    → IsPartitionPoint (λ y. ltb y place ≡ true) (λ y. ltb y place ≡ false) starts r
    → (s : ℕ) → s < r → start_of ns s < place
before_found ns starts place r are le point s lt =
    omega (arith, at_start ns starts s 0 are (omega arith), ltb-true (get_or starts s 0) place (point.0 s 0 (omega arith) lt))

pub after_found : (ns starts : List ℕ) (place r : ℕ) → AreStarts ns starts → r ≤ length starts
    → IsPartitionPoint (λ y. ltb y place ≡ true) (λ y. ltb y place ≡ false) starts r
    → (s : ℕ) → r ≤ s → s < length ns → place ≤ start_of ns s
after_found ns starts place r are le point s ge lt =
    let within : s < length starts = omega (arith, are.one_each) in
    omega (arith, at_start ns starts s 0 are within, ltb-false (get_or starts s 0) place (point.1 s 0 ge within))

-- what two searches, for the first of some places and for their end, say of these places
module _ (d : List ℕ) (first past before begin end : ℕ) (in_order : first ≤ past) (within : past ≤ sum d) (is_begin : begin ≡ before - 1) (most : before ≤ length d) (least : end ≤ length d)
    (earlier : (s : ℕ) → s < before → start_of d s < first + 1) (later : (s : ℕ) → before ≤ s → s < length d → first + 1 ≤ start_of d s)
    (some : (s : ℕ) → s < end → start_of d s < past) (ends : (s : ℕ) → end ≤ s → s < length d → past ≤ start_of d s) where
  -- a segment starts at the first place or before it
  begun : 0 < length d → 0 < before
  begun exists =
      elim (cases_lt 0 before) [
        | inl lt ↦ lt
        | inr ge ↦ absurd (let behind : first + 1 ≤ start_of d 0 = later 0 ge exists in omega (arith, behind))
      ]

  -- no segment starts among them: there is no place
  pub none_spanned : end ≤ begin → past ≡ first
  none_spanned le =
      elim (cases_lt begin (length d)) [
        | inl lt ↦ let exists : 0 < before = begun (omega arith) in omega (arith, earlier begin (omega arith), ends begin le lt)
        | inr ge ↦ omega (arith, ap sum (nil_from_length d (omega arith)))
      ]

  pub spanned : (from : ℕ) → begin < end → from ≡ first - start_of d begin → Spans d first past begin from (end - 1)
  spanned from lt is =
      let exists : 0 < before = begun (omega arith) in
      let starts : start_of d begin < first + 1 = earlier begin (omega arith) in
      let next : start_of d (begin + 1) ≡ start_of d begin + get_or d begin 0 = sum_by_more (λ x. x) d begin 0 (omega arith) in
      let ended : first ≤ start_of d (begin + 1) =
      elim (cases_lt before (length d)) [
        | inl lt ↦ let at : begin + 1 ≡ before = omega arith in omega (arith, later before (omega arith) lt, ap (start_of d) at)
        | inr ge ↦ omega (arith, ap sum (take_all (begin + 1) d (omega arith)))
      ] in
      let same : end - 1 + 1 ≡ end = omega arith in
      record {
        in_order = omega arith;
        within = omega arith;
        begins = omega arith;
        inside = omega (arith, is, next, ended);
        some = some (end - 1) (omega arith);
        ends = elim (cases_lt end (length d)) [
          | inl lt ↦ omega (arith, ends end (omega arith) lt, ap (start_of d) same)
          | inr ge ↦ omega (arith, ap sum (take_all (end - 1 + 1) d (omega arith)))
        ];
      }
