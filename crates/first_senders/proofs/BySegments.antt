-- The walks from segment to segment: what the first has found, and what the second has written.
use Rattle.first_senders.proofs.Cited.{◌≡◌, ◌∙◌, ℕ, ◌+◌, ◌-◌, ◌<◌, ◌≤◌, List, [], ◌∷◌, ◌++◌, length, length-drop, map, sum, take, drop, get_or, sym, ap, append-nil, append_assoc, arith, ℤ, Option}
use Rattle.first_senders.proofs.Cited.{Some, None, drop_all, drop-drop, drop_more, length-take-le, take_all, length-map-range_with_len, put_mid, same_len_mid, Fault}
use Rattle.first_senders.proofs.Cited.{first_fault}
use Rattle.std.specs.Option.{option_or}
use Rattle.std.proofs.lemmas.Slice.{take-put_mid}
use Rattle.segdes.proofs.Sums.{segment_within}
use Rattle.first_senders.specs.FirstSenders.{first_sender, first_senders, wrong_in}
use Rattle.first_senders.specs.Walks.{fault_by, senders_by}

module _ (ns ms : List ℕ) (ts : List (Option ℤ)) (count : length ns ≡ length ms) (s : ℕ) (lt : s < length ns) (first n m : ℕ) (is : n ≡ get_or ns s 0) (wide : m ≡ get_or ms s 0) where
  lengths_left : drop s ns ≡ n ∷ drop (s + 1) ns
  lengths_left = drop_more ns s 0 lt ∙ ap (λ k. k ∷ drop (s + 1) ns) (sym is)

  widths_left : drop s ms ≡ m ∷ drop (s + 1) ms
  widths_left = drop_more ms s 0 (omega arith) ∙ ap (λ k. k ∷ drop (s + 1) ms) (sym wide)

  abbrev segment : List (Option ℤ)
  segment = take n (drop first ts)

  -- ---- the first walk

  module _ (so_far : fault_by 0 ns ms ts ≡ fault_by first (drop s ns) (drop s ms) (drop first ts)) where
    next : fault_by 0 ns ms ts ≡ option_or (first_fault first (map (wrong_in m) segment)) (fault_by (first + n) (drop (s + 1) ns) (drop (s + 1) ms) (drop (first + n) ts))
    next =
        so_far ∙ (λ i. fault_by first (lengths_left i) (widths_left i) (drop first ts))
        ∙ (λ i. option_or (first_fault first (map (wrong_in m) segment)) (fault_by (first + n) (drop (s + 1) ns) (drop (s + 1) ms) (drop-drop n first ts i)))

    pub segment_passed : None ≡ first_fault first (map (wrong_in m) segment)
        → fault_by 0 ns ms ts ≡ fault_by (first + n) (drop (s + 1) ns) (drop (s + 1) ms) (drop (first + n) ts)
    segment_passed none = next ∙ ap (λ o. option_or o (fault_by (first + n) (drop (s + 1) ns) (drop (s + 1) ms) (drop (first + n) ts))) (sym none)

    pub segment_failed : (f : Fault) → Some f ≡ first_fault first (map (wrong_in m) segment) → Some f ≡ fault_by 0 ns ms ts
    segment_failed f some = sym (next ∙ ap (λ o. option_or o (fault_by (first + n) (drop (s + 1) ns) (drop (s + 1) ms) (drop (first + n) ts))) (sym some))

  -- ---- the second

  module _ (out : List ℤ) (start : ℕ) (so_far : take start out ++ senders_by (drop s ns) (drop s ms) (drop first ts) ≡ senders_by ns ms ts) (within : start + m ≤ length out) (new written : List ℤ)
      (is_written : written ≡ first_senders segment 0 m) (put : new ≡ put_mid start (start + m - start) out written) where
    written_long : length written ≡ m
    written_long = ap length is_written ∙ length-map-range_with_len (first_sender segment) 0 m

    pub room_long : length new ≡ length out
    room_long =
        ap length put
        ∙ same_len_mid start (start + m - start) out written (omega (arith, written_long, length-take-le (start + m - start) (drop start out) (omega (arith, length-drop start out))))

    pub room_more : take (start + m) new ++ senders_by (drop (s + 1) ns) (drop (s + 1) ms) (drop (first + n) ts) ≡ senders_by ns ms ts
    room_more =
        let others = senders_by (drop (s + 1) ns) (drop (s + 1) ms) (drop (first + n) ts) in
        ap (λ zs. take (start + m) zs ++ others) put
        ∙ ap (λ zs. zs ++ others) (take-put_mid start (start + m - start) out written (start + m) (omega (arith, written_long)) (omega arith))
        ∙ append_assoc (take start out) written others
        ∙ ap (λ zs. take start out ++ (zs ++ others)) is_written
        ∙ ap (λ us. take start out ++ (first_senders segment 0 m ++ senders_by (drop (s + 1) ns) (drop (s + 1) ms) us)) (sym (drop-drop n first ts))
        ∙ (λ i. take start out ++ senders_by (sym lengths_left i) (sym widths_left i) (drop first ts))
        ∙ so_far

-- the places of a segment are among all
pub places_within : (ns : List ℕ) (s first n total : ℕ) → s < length ns → first ≡ sum (take s ns) → n ≡ get_or ns s 0 → sum ns ≡ total → first + n ≤ total
places_within ns s first n total lt there is all = omega (arith, segment_within ns s lt, there, is, all)

-- all segments
pub room_all : (ns ms : List ℕ) (ts : List (Option ℤ)) (s first start : ℕ) (out : List ℤ) → length ns ≤ s → take start out ++ senders_by (drop s ns) (drop s ms) (drop first ts) ≡ senders_by ns ms ts
    → length out ≤ start → out ≡ senders_by ns ms ts
room_all ns ms ts s first start out past so_far long =
    sym (append-nil out) ∙ ap (λ zs. zs ++ []) (sym (take_all start out long))
    ∙ ap (λ ls. take start out ++ senders_by ls (drop s ms) (drop first ts)) (sym (drop_all s ns past)) ∙ so_far
