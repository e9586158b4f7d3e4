-- The walks from segment to segment: what the first has found, and what the second has joined.
use Rattle.combining_permutes.proofs.Cited.{◌≡◌, ◌∙◌, ℕ, ◌+◌, ◌<◌, ◌≤◌, List, [], ◌∷◌, ◌++◌, length, length-append, length-drop, map, refl, sum, take, drop, get_or, zip, sym, ap, append-nil}
use Rattle.combining_permutes.proofs.Cited.{append_assoc, arith, ℤ, Option}
use Rattle.combining_permutes.proofs.Cited.{Some, None, All, All-append, All-drop, All-take, drop_all, drop-drop, drop-map, drop_more, take-map, length-take-le, take_all, take-append-drop}
use Rattle.combining_permutes.proofs.Cited.{sum_by-drop_more, put_mid, same_len_mid, Fault, subst}
use Rattle.combining_permutes.proofs.Cited.{option_or, length-enumerate_from, length-map, enumerate_from, fold_of, first_outside, combined, combined_by, outside_by, sent_there}
use Rattle.std.proofs.lemmas.Slice.{drop-put_mid, take-put_mid}
use Rattle.cvl_base.proofs.Lists.{sum-cons}

-- a segment lies within all of them
pub ends_within : (lengths : List ℕ) (s : ℕ) → s < length lengths → (first n all : ℕ) → n ≡ get_or lengths s 0 → first + sum (drop s lengths) ≡ all
    → (first + n ≤ all) × (first + n + sum (drop (s + 1) lengths) ≡ all)
ends_within lengths s lt first n all is total =
    let more = sum_by-drop_more (λ x. x) lengths s 0 lt in
    (omega (arith, more, is, total), omega (arith, more, is, total))

-- a part of what is read, and what is read of a part
pub read_part : {X Y : Type 0} (item : X → Y) (j n first : ℕ) (source : List X) → j ≡ n → map item (take j (drop first source)) ≡ take n (drop first (map item source))
read_part item j n first source same =
    sym (take-map item j (drop first source)) ∙ (λ i. take (same i) (sym (drop-map item first source) i))

pub length-combined : {X : Type 0} (join : X → X → X) (sends : List (ℤ × X)) (lowest : ℕ) (before : List X) → length (combined join sends lowest before) ≡ length before
length-combined join sends lowest before =
    length-map (enumerate_from lowest before) (λ p. fold_of join p.1 (sent_there sends p.0)) ∙ length-enumerate_from lowest before

module _ (ns ms : List ℕ) (count : length ns ≡ length ms) (s : ℕ) (lt : s < length ns) (n m : ℕ) (is : n ≡ get_or ns s 0) (wide : m ≡ get_or ms s 0) where
  lengths_left : drop s ns ≡ n ∷ drop (s + 1) ns
  lengths_left = drop_more ns s 0 lt ∙ ap (λ k. k ∷ drop (s + 1) ns) (sym is)

  widths_left : drop s ms ≡ m ∷ drop (s + 1) ms
  widths_left = drop_more ms s 0 (omega arith) ∙ ap (λ k. k ∷ drop (s + 1) ms) (sym wide)

  -- ---- the first walk

  module _ (index : List ℤ) (first : ℕ) (so_far : outside_by 0 ns ms index ≡ outside_by first (drop s ns) (drop s ms) (drop first index)) where
    abbrev later : Option Fault
    later = outside_by (first + n) (drop (s + 1) ns) (drop (s + 1) ms) (drop (first + n) index)

    next : outside_by 0 ns ms index ≡ option_or (first_outside first m (take n (drop first index))) later
    next =
        so_far ∙ (λ i. outside_by first (lengths_left i) (widths_left i) (drop first index))
        ∙ (λ i. option_or (first_outside first m (take n (drop first index))) (outside_by (first + n) (drop (s + 1) ns) (drop (s + 1) ms) (drop-drop n first index i)))

    pub segment_passed : None ≡ first_outside first m (take n (drop first index)) → outside_by 0 ns ms index ≡ later
    segment_passed none = next ∙ ap (λ o. option_or o later) (sym none)

    pub segment_failed : (f : Fault) → Some f ≡ first_outside first m (take n (drop first index)) → Some f ≡ outside_by 0 ns ms index
    segment_failed f some = sym (next ∙ ap (λ o. option_or o later) (sym some))

  -- ---- the second

  module _ {X : Type 0} (join : X → X → X) (index : List ℤ) (elements out whole : List X) (first start : ℕ) (fits : start + m ≤ length out)
      (so_far : take start out ++ combined_by join (drop s ns) (drop s ms) (drop first index) (drop first elements) (drop start out) ≡ whole) (k : ℕ) (is_k : k ≡ m) (written : List X)
      (is_written : written ≡ combined join (zip (take n (drop first index)) (take n (drop first elements))) 0 (take m (drop start out))) where
    written_long : length written ≡ m
    written_long =
        ap length is_written ∙ length-combined join (zip (take n (drop first index)) (take n (drop first elements))) 0 (take m (drop start out))
        ∙ length-take-le m (drop start out) (omega (arith, length-drop start out, fits))

    pub room_long : length (put_mid start k out written) ≡ length out
    room_long = same_len_mid start k out written (omega (arith, written_long, is_k, length-take-le k (drop start out) (omega (arith, length-drop start out, is_k, fits))))

    front : take (start + m) (put_mid start k out written) ≡ take start out ++ written
    front = take-put_mid start k out written (start + m) (omega (arith, written_long)) (omega (arith, fits))

    back : drop (start + m) (put_mid start k out written) ≡ drop (start + m) out
    back = drop-put_mid start k out written (start + m) (omega (arith, is_k)) (omega (arith, fits)) (written_long ∙ sym is_k)

    abbrev others : List ℤ → List X → List X → List X
    others = combined_by join (drop (s + 1) ns) (drop (s + 1) ms)

    pub room_more : take (start + m) (put_mid start k out written)
        ++ others (drop (first + n) index) (drop (first + n) elements) (drop (start + m) (put_mid start k out written)) ≡ whole
    room_more =
        (λ i. front i ++ others (drop (first + n) index) (drop (first + n) elements) (back i))
        ∙ append_assoc (take start out) written (others (drop (first + n) index) (drop (first + n) elements) (drop (start + m) out))
        ∙ (λ i. take start out ++ (is_written i ++ others (sym (drop-drop n first index) i) (sym (drop-drop n first elements) i) (sym (drop-drop m start out) i)))
        ∙ (λ i. take start out ++ combined_by join (sym lengths_left i) (sym widths_left i) (drop first index) (drop first elements) (drop start out))
        ∙ so_far

    pub room_items : (P : X → Type 0) → All P out → All P written → All P (put_mid start k out written)
    room_items P before joined =
        subst (All P) (take-append-drop (start + m) (put_mid start k out written))
        (All-append P (take (start + m) (put_mid start k out written)) (drop (start + m) (put_mid start k out written))
        (subst (All P) (sym front) (All-append P (take start out) written (All-take P start out before) joined))
        (subst (All P) (sym back) (All-drop P (start + m) out before)))

-- all segments
pub room_all : {X : Type 0} (join : X → X → X) (ns ms : List ℕ) (s start : ℕ) (index : List ℤ) (elements rest out whole : List X) → length ns ≤ s → length out ≤ start
    → take start out ++ combined_by join (drop s ns) (drop s ms) index elements rest ≡ whole → out ≡ whole
room_all join ns ms s start index elements rest out whole past long so_far =
    sym (append-nil out) ∙ ap (λ zs. zs ++ []) (sym (take_all start out long))
    ∙ ap (λ ls. take start out ++ combined_by join ls (drop s ms) index elements rest) (sym (drop_all s ns past)) ∙ so_far

-- the segments of the room, one after another
pub length-combined_by : {X : Type 0} (join : X → X → X) (ns ms : List ℕ) (index : List ℤ) (elements before : List X) → length ns ≡ length ms → sum ms ≡ length before
    → length (combined_by join ns ms index elements before) ≡ sum ms
length-combined_by join [] [] index elements before count wide = refl
length-combined_by join [] (m ∷ ms) index elements before count wide = absurd (omega (arith, count))
length-combined_by join (n ∷ ns) [] index elements before count wide = absurd (omega (arith, count))
length-combined_by join (n ∷ ns) (m ∷ ms) index elements before count wide =
    let first = sum-cons m ms in
    let here = combined join (zip (take n index) (take n elements)) 0 (take m before) in
    let others = combined_by join ns ms (drop n index) (drop n elements) (drop m before) in
    length-append here others
    ∙ omega (
      arith,
      first,
      length-combined join (zip (take n index) (take n elements)) 0 (take m before),
      length-take-le m before (omega (arith, first, wide)),
      length-combined_by join ns ms (drop n index) (drop n elements) (drop m before) (omega (arith, count)) (omega (arith, first, wide, length-drop m before)),
    )
