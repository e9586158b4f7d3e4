-- The first walk of a segmented back permute, segment by segment.
use Rattle.std.proofs.Common.{◌≡◌, ◌∙◌, ℕ, suc, ◌+◌, ◌-◌, ◌<◌, ◌≤◌, true, if◌then◌else◌, List, [], ◌∷◌, length, map, sum, take, drop, get_or, refl, sym, ap, arith, ℤ, pos, negsuc, Option, Some, None}
use Rattle.std.specs.Option.{option_or}
use Rattle.std.proofs.lemmas.Bool.{false≢true, lt-ltb, ltb-true}
use Rattle.std.proofs.lemmas.List.{drop-drop, drop_more}
use Rattle.std.proofs.lemmas.List.Elements.{All-drop, All-head, All-tail, All-take}
use Rattle.segdes.specs.Starts.{start_of}
use Rattle.cvl_base.specs.declared.fault.Fault.{Fault}
use Rattle.cvl_base.specs.declared.fault.FaultNo.TheVariants.{IndexOutOfRange}
use Rattle.cvl_base.specs.Permutes.{first_fault, is_place}
use Rattle.permute_walks.specs.Indices.{AreInside, first_outside, outside}
use Rattle.segmented_permutes.specs.Backs.{outside_from}
use Rattle.segment_sends.proofs.Ranges.{range_is}
use Rattle.segment_sends.proofs.Through.{start_more}

-- one more segment is looked at
module _ (widths lengths : List ℕ) (index : List ℤ) (total : sum lengths ≡ length index) (count : length widths ≡ length lengths)
    (s : ℕ) (lt : s < length lengths) (first n m : ℕ) (there : first ≡ start_of lengths s) (is : n ≡ get_or lengths s 0) (wide : m ≡ get_or widths s 0) where
  abbrev others : Option Fault
  others = outside_from (start_of lengths (s + 1)) (drop (s + 1) widths) (drop (s + 1) lengths) (drop (start_of lengths (s + 1)) index)

  abbrev here : Option Fault
  here = outside_from (start_of lengths s) (drop s widths) (drop s lengths) (drop (start_of lengths s) index)

  pub segment_next : here ≡ option_or (first_outside first m (take (first + n - first) (drop first index))) others
  segment_next =
      let w = get_or widths s 0 in
      let k = get_or lengths s 0 in
      ap (λ ls. outside_from (start_of lengths s) ls (drop s lengths) (drop (start_of lengths s) index)) (drop_more widths s 0 (omega arith))
      ∙ ap (λ ls. outside_from (start_of lengths s) (w ∷ drop (s + 1) widths) ls (drop (start_of lengths s) index)) (drop_more lengths s 0 lt)
      ∙ (λ i. option_or (first_outside (sym there i) (sym wide i) (sym (range_is lengths index total s lt first n there is) i))
      (outside_from (sym (start_more lengths s lt) i) (drop (s + 1) widths) (drop (s + 1) lengths) (drop-drop k (start_of lengths s) index i)))
      ∙ ap (λ p. option_or (first_outside first m (take (first + n - first) (drop first index)))
      (outside_from (start_of lengths (s + 1)) (drop (s + 1) widths) (drop (s + 1) lengths) (drop p index))) (sym (start_more lengths s lt))

  pub segment_passed : None ≡ first_outside first m (take (first + n - first) (drop first index)) → here ≡ others
  segment_passed none = segment_next ∙ ap (λ o. option_or o others) (sym none)

-- ---- where each index is a place of the shortest segment

wider : (least m : ℕ) (i : ℤ) → least ≤ m → is_place least i ≡ true → is_place m i ≡ true
wider least m (pos d) le inside = lt-ltb d m (omega (arith, le, ltb-true d least inside))
wider least m (negsuc d) le inside = absurd (false≢true inside)

all_wider : (place least m : ℕ) (js : List ℤ) → least ≤ m → AreInside least js → None ≡ first_outside place m js
all_wider place least m [] le inside = refl
all_wider place least m (j ∷ js) le inside =
    all_wider (place + 1) least m js le (All-tail (λ i. is_place least i ≡ true) j js inside)
    ∙ sym (ap (λ b. first_fault place ((if b then None else Some IndexOutOfRange) ∷ map (outside m) js)) (wider least m j le (All-head (λ i. is_place least i ≡ true) j js inside)))

pub none_beyond : (place least : ℕ) (widths lengths : List ℕ) (index : List ℤ) → ((s : ℕ) → s < length widths → least ≤ get_or widths s 0) → AreInside least index
    → None ≡ outside_from place widths lengths index
none_beyond place least [] lengths index short inside = refl
none_beyond place least (m ∷ ms) [] index short inside = refl
none_beyond place least (m ∷ ms) (n ∷ ns) index short inside =
    let here = all_wider place least m (take n index) (short 0 (omega arith)) (All-take (λ i. is_place least i ≡ true) n index inside) in
    let behind = none_beyond (place + n) least ms ns (drop n index) (λ s lt. short (suc s) (omega arith)) (All-drop (λ i. is_place least i ≡ true) n index inside) in
    λ i. option_or (here i) (behind i)
