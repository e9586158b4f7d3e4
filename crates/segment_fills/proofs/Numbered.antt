-- The numbers of a part, as they are written.
use Rattle.std.proofs.Common.{◌≡◌, ◌≢◌, ◌==◌, ◌&&◌, ◌++◌, ◌+◌, ◌-◌, ◌<◌, ◌≤◌, ◌∙◌, ℕ, zero, suc, ℤ, pos, ◌+ℤ◌, ◌*ℤ◌, true, not, Ok, List, [], ◌∷◌, length, take, drop, get_or}
use Rattle.std.proofs.Common.{sum, zip, refl, sym, ap, arith}
use Rattle.std.proofs.Common.{length-drop, take_all}
use Rattle.std.proofs.Math.IntN.{+ℤ_idr, zero-*ℤ}
use Rattle.std.proofs.lemmas.Bool.{and_from, eq-eqb, le-ltb}
use Rattle.std.proofs.lemmas.List.{drop-append-le, drop_more, length-take}
use Rattle.std.proofs.lemmas.Slice.Zip.{length-zip}
use Rattle.cvl_base.specs.declared.fault.FaultNo.TheVariants as no
use Rattle.cvl_base.specs.Faults.{fault}
use Rattle.cvl_base.specs.Gives.{fault_if}
use Rattle.cvl_base.specs.Integers.{wrap}
use Rattle.cvl_base.specs.Limits.{most_places}
use Rattle.cvl_base.specs.Lists.{joined}
use Rattle.pack_dist.proofs.Distributed.{lists-whole, numbers, progression-long}
use Rattle.pack_dist.proofs.Progressed.{progression-part}
use Rattle.pack_dist.specs.Lists.{progressions_of}
use Rattle.pack_dist.specs.Progressions.{numbers_from, progression}
use Rattle.segment_fills.proofs.Parts.{PartWith}
use Rattle.segment_fills.proofs.Written.{take-both}
use Rattle.segment_fills.specs.Fills.{is_part_with}
use Rattle.segment_fills.specs.Numbers.{numbers_in_part, part_index_of}

-- the first number
pub first-number : (init stride next : ℤ) → next ≡ wrap init → next ≡ wrap (init +ℤ pos 0 *ℤ stride)
first-number init stride next is = is ∙ ap wrap (sym (ap (λ z. init +ℤ z) (zero-*ℤ stride) ∙ +ℤ_idr init))

-- the numbers of one more segment
pub numbers-of-more : (inits strides : List ℤ) (lengths : List ℕ) (s : ℕ) → s < length inits → s < length strides → s < length lengths
    → joined (progressions_of (drop s inits) (drop s strides) (drop s lengths))
    ≡ progression (get_or inits s (pos 0)) (get_or strides s (pos 0)) (get_or lengths s 0) ++ joined (progressions_of (drop (s + 1) inits) (drop (s + 1) strides) (drop (s + 1) lengths))
numbers-of-more inits strides lengths s a b c = λ i. joined (progressions_of (drop_more inits s (pos 0) a i) (drop_more strides s (pos 0) b i) (drop_more lengths s 0 c i))

pub length-cut-numbers : (inits strides : List ℤ) (lengths : List ℕ) (n : ℕ) → length inits ≡ length lengths → length strides ≡ length lengths → n ≤ sum lengths
    → length (take n (joined (progressions_of inits strides lengths))) ≡ n
length-cut-numbers inits strides lengths n a b few =
    let all = joined (progressions_of inits strides lengths) in
    omega (arith, few, length-take n all, lists-whole (numbers 0) (zip inits strides) lengths (omega (arith, a, b, length-zip inits strides)))

-- what a part has of its open segment, and the segments that start in it, are its numbers
pub numbered : (before head : ℕ) (lengths : List ℕ) (inits strides others other_strides : List ℤ) (n : ℕ) (front starts : List ℤ) → PartWith head lengths (length inits) n
    → length strides ≡ length inits → (head ≡ 0 → others ≡ inits) → (head ≢ 0 → others ≡ drop 1 inits) → (head ≡ 0 → other_strides ≡ strides) → (head ≢ 0 → other_strides ≡ drop 1 strides)
    → front ≡ numbers_from (get_or inits 0 (pos 0)) (get_or strides 0 (pos 0)) before head → starts ≡ take (n - head) (joined (progressions_of others other_strides lengths))
    → numbers_in_part before head lengths inits strides n ≡ front ++ starts
numbered before zero lengths inits strides others other_strides n front starts part pairs a b c d front_is starts_are =
    let all : n ≡ n - 0 = omega arith in
    (λ i. take (all i) (joined (progressions_of (sym (a refl) i) (sym (c refl) i) lengths))) ∙ sym starts_are ∙ ap (λ xs. xs ++ starts) (sym front_is)
numbered before (suc h) lengths [] strides others other_strides n front starts part pairs a b c d front_is starts_are = absurd (omega (arith, part.one_each))
numbered before (suc h) lengths (x ∷ inits) [] others other_strides n front starts part pairs a b c d front_is starts_are = absurd (omega (arith, pairs))
numbered before (suc h) lengths (x ∷ inits) (y ∷ strides) others other_strides n front starts part pairs a b c d front_is starts_are =
    let some : suc h ≢ 0 = λ e. omega (arith, e) in
    let whole = progression x y (before + suc h) in let more = joined (progressions_of inits strides lengths) in
    let long : length (drop before whole) ≡ suc h = omega (arith, length-drop before whole, progression-long x y (before + suc h)) in
    let here : take n (drop before whole) ≡ front =
    take_all n (drop before whole) (omega (arith, long, part.enough)) ∙ sym (take_all (suc h) (drop before whole) (omega (arith, long)))
    ∙ progression-part x y (before + suc h) before (suc h) (omega arith) ∙ sym front_is in
    ap (take n) (drop-append-le before whole more (omega (arith, progression-long x y (before + suc h))))
    ∙ take-both n (drop before whole) more
    ∙ (λ i. here i ++ take (n - long i) (joined (progressions_of (sym (b some) i) (sym (d some) i) lengths)))
    ∙ ap (λ xs. front ++ xs) (sym starts_are)

pub part-indexes : (before head : ℕ) (lengths : List ℕ) (inits strides : List ℤ) (n : ℕ) → before + head ≤ most_places → is_part_with head lengths (length inits) n ≡ true
    → length strides ≡ length inits → part_index_of before head lengths inits strides n ≡ Ok (numbers_in_part before head lengths inits strides n)
part-indexes before head lengths inits strides n few is pairs =
    let value = Ok (numbers_in_part before head lengths inits strides n) in
    ap (λ b. fault_if b (fault no.TooLong) (fault_if (not (is_part_with head lengths (length inits) n && (length strides == length inits))) (fault no.LengthMismatch) value))
    (le-ltb most_places (before + head) few)
    ∙ ap (λ b. fault_if (not b) (fault no.LengthMismatch) value) (and_from _ _ is (eq-eqb _ _ pairs))
