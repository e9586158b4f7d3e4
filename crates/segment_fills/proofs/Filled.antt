-- A room that is filled from its front by lists, one after another.
use Rattle.std.proofs.Common.{◌≡◌, ◌∙◌, ◌++◌, ◌+◌, ◌-◌, ◌≤◌, ℕ, zero, suc, List, [], ◌∷◌, length, map, take, min, replicate, append_assoc, append-nil, refl, ap, sym, arith, take_all}
use Rattle.std.specs.List.{range_with_len}
use Rattle.std.proofs.lemmas.List.{length-take, nil_from_length, take-replicate, take_min}
use Rattle.segment_fills.proofs.Written.{take-both}

-- what is written up to place `first`, before what is left, is the front of the whole
pub record IsFilled {X : Type 0} (room : List X) (first : ℕ) (left whole : List X) (n : ℕ) : Type 0 where
  pub as_long : length room ≡ n
  pub within : first ≤ n
  pub is : take first room ++ take (n - first) left ≡ take n whole

module _ {X : Type 0} where
  pub begun : (room whole : List X) → IsFilled room 0 whole whole (length room)
  begun room whole = record {
    as_long = omega arith;
    within = omega arith;
    is = let all : length room - 0 ≡ length room = omega arith in ap (λ k. take k whole) all;
  }

  -- a list more, as much of it as there is room for
  pub list_filled : (room next : List X) (first end : ℕ) (piece later left whole : List X) (n : ℕ) → IsFilled room first left whole n → left ≡ piece ++ later
      → end ≡ min (first + length piece) n → length next ≡ length room → take end next ≡ take first room ++ take (end - first) piece → IsFilled next end later whole n
  list_filled room next first end piece later left whole n to left_is end_is long written =
      let cut : take (end - first) piece ≡ take (n - first) piece =
      let least : min (n - first) (length piece) ≡ end - first = omega (arith, end_is, to.within) in
      ap (λ k. take k piece) (sym least) ∙ take_min (n - first) piece in
      let rest : take (n - end) later ≡ take (n - first - length piece) later =
      let same : n - end ≡ n - first - length piece = omega (arith, end_is, to.within) in
      ap (λ k. take k later) same in
      record {
        as_long = long ∙ to.as_long;
        within = omega (arith, end_is);
        is =
            (λ i. written i ++ rest i)
            ∙ append_assoc (take first room) (take (end - first) piece) (take (n - first - length piece) later)
            ∙ (λ i. take first room ++ (cut i ++ take (n - first - length piece) later))
            ∙ ap (λ xs. take first room ++ xs) (sym (take-both (n - first) piece later) ∙ ap (take (n - first)) (sym left_is))
            ∙ to.is;
      }

  -- all is written once no list is left
  pub all_filled : (room : List X) (first : ℕ) (left whole : List X) (n : ℕ) → IsFilled room first left whole n → left ≡ [] → length (take n whole) ≡ n → room ≡ take n whole
  all_filled room first left whole n to none enough =
      let nothing : take (n - first) left ≡ [] = nil_from_length (take (n - first) left) (omega (arith, length-take (n - first) left, ap length none)) in
      let written : take first room ≡ take n whole = sym (append-nil (take first room)) ∙ (λ i. take first room ++ sym nothing i) ∙ to.is in
      let full : n ≤ first = omega (arith, ap length written, length-take first room, enough, to.as_long) in
      sym (take_all first room (omega (arith, full, to.as_long))) ∙ written

  -- the first of some copies
  same-copies : (value : X) (from count : ℕ) → map (λ place. value) (range_with_len from count) ≡ replicate count value
  same-copies value from zero = refl
  same-copies value from (suc count) = ap (λ xs. value ∷ xs) (same-copies value (from + 1) count)

  pub copies-front : (value : X) (count n : ℕ) → count ≤ n → map (λ place. value) (range_with_len 0 count) ≡ take count (replicate n value)
  copies-front value count n few = same-copies value 0 count ∙ sym (take-replicate count n value few)
