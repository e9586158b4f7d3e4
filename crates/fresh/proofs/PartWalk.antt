-- A list in parts: its items are those of the parts, and the first without a value is the first of the parts' first ones.
use Rattle.fresh.proofs.Cited.{◌≡◌, ℕ, ◌+◌, ◌-◌, ◌^◌, ◌≤◌, ◌<◌, List, [], ◌∷◌, ◌++◌, length, min, take, drop, refl, ap, sym, ◌∙◌, arith, sum, Option, Some, None, length-append, flat_map, option_or}
use Rattle.fresh.proofs.Cited.{drop-map, take-append-drop, take-map, flat_map-append}
use Rattle.std.proofs.lemmas.List.Sums.{sum_by-cons}
use Rattle.fresh.specs.Counted.{item_counts, found_in}

or_or : (a b c : Option ℕ) → option_or a (option_or b c) ≡ option_or (option_or a b) c
or_or None b c = refl
or_or (Some w) b c = refl

module _ {P X : Type 0} (items : P → List X) where
  -- the counts add up to the number of items
  pub counted : (parts : List P) → sum (item_counts items parts) ≡ length (flat_map items parts)
  counted [] = refl
  counted (part ∷ parts) = cc (sum_by-cons (λ n. n) (length (items part)) (item_counts items parts), counted parts, length-append (items part) (flat_map items parts))

  found_both : (found : P → ℕ → Option ℕ) (low high : List P) (first : ℕ)
      → found_in items found (low ++ high) first ≡ option_or (found_in items found low first) (found_in items found high (first + length (flat_map items low)))
  found_both found [] high first = let same : first ≡ first + 0 = omega arith in ap (found_in items found high) same
  found_both found (part ∷ low) high first =
      let next = first + length (items part) in
      let at : next + length (flat_map items low) ≡ first + length (flat_map items (part ∷ low)) = omega (arith, length-append (items part) (flat_map items low)) in
      cc (found_both found low high next, or_or (found part first) (found_in items found low next) (found_in items found high (next + length (flat_map items low))), at)

  -- parts in two, with their counts
  pub record AreCut (parts low high : List P) (low_counts high_counts : List ℕ) (room total : ℕ) : Type 0 where
    pub within : total ≤ room
    pub front : (low_counts ≡ item_counts items low) × (total ≡ length (flat_map items low))
    pub back : (high_counts ≡ item_counts items high) × (room - total ≡ length (flat_map items high))
    pub found : (found : P → ℕ → Option ℕ) (first : ℕ) → found_in items found parts first ≡ option_or (found_in items found low first) (found_in items found high (first + total))

  module _ (parts : List P) {low high : List P} {counts low_counts high_counts : List ℕ} (few : ℕ) {room total : ℕ} (counts_are : counts ≡ item_counts items parts)
      (all : room ≡ length (flat_map items parts))
      (low_is : low ≡ take few parts) (high_is : high ≡ drop few parts) (low_counts_are : low_counts ≡ take few counts) (high_counts_are : high_counts ≡ drop few counts)
      (total_is : total ≡ min (sum low_counts) (2 ^ 64 - 1)) (fits : room < 2 ^ 64) where
    both : parts ≡ low ++ high
    both = sym (take-append-drop few parts) ∙ (λ i. sym low_is i ++ sym high_is i)

    sizes : room ≡ length (flat_map items low) + length (flat_map items high)
    sizes = all ∙ ap (λ ps. length (flat_map items ps)) both ∙ ap length (flat_map-append items low high) ∙ length-append (flat_map items low) (flat_map items high)

    low_counted : low_counts ≡ item_counts items low
    low_counted = low_counts_are ∙ ap (take few) counts_are ∙ take-map (λ part. length (items part)) few parts ∙ ap (item_counts items) (sym low_is)

    low_total : total ≡ length (flat_map items low)
    low_total = let sums : sum low_counts ≡ length (flat_map items low) = ap sum low_counted ∙ counted low in omega (arith, sizes)

    pub cut_in_two : AreCut parts low high low_counts high_counts room total
    cut_in_two = record {
      within = omega (arith, sizes, low_total);
      front = (low_counted, low_total);
      back = (high_counts_are ∙ ap (drop few) counts_are ∙ drop-map (λ part. length (items part)) few parts ∙ ap (item_counts items) (sym high_is), omega (arith, sizes, low_total));
      found = λ found first.
          ap (λ ps. found_in items found ps first) both ∙ found_both found low high first
          ∙ ap (λ n. option_or (found_in items found low first) (found_in items found high (first + n))) (sym low_total);
    }
