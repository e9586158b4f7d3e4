-- The definition of a segmented back permute, told by what each index takes, and by the first index outside.
use Rattle.std.proofs.Common.{◌≡◌, ◌∙◌, ℕ, ◌+◌, ◌≤◌, List, [], ◌∷◌, ◌++◌, length, map, sum, take, drop, refl, sym, ap, subst, length-drop, arith, ℤ, option_map, Option, Some, None, Result, Ok, Err}
use Rattle.std.specs.List.{All, zip}
use Rattle.std.specs.Option.{option_or}
use Rattle.std.proofs.Math.Seq.{drop-nil, take-nil}
use Rattle.std.proofs.lemmas.List.{length-map, length-take-le}
use Rattle.std.proofs.lemmas.List.Elements.{All-append, All-nil}
use Rattle.fresh.specs.Found.{first_without}
use Rattle.fresh.proofs.FirstWithout.{first_of_both}
use Rattle.cvl_base.specs.declared.fault.Fault.{Fault}
use Rattle.cvl_base.specs.declared.fault.FaultNo.{FaultNo}
use Rattle.cvl_base.specs.declared.fault.FaultNo.TheVariants.{IndexOutOfRange}
use Rattle.cvl_base.specs.Elementwise.{values_from}
use Rattle.cvl_base.specs.Extracts.{element_at}
use Rattle.cvl_base.specs.Faults.{fault_at}
use Rattle.cvl_base.specs.Gives.{◌>>=◌, after}
use Rattle.cvl_base.specs.Lists.{joined}
use Rattle.cvl_base.specs.Nests.{cut_of, nest}
use Rattle.cvl_base.specs.Permutes.{back_of}
use Rattle.cvl_base.specs.Segmented.{end_to_end, in_vector, moved, of_two, results_from}
use Rattle.cvl_base.specs.SegmentedCalls.{seg_back_of}
use Rattle.permute_walks.specs.Indices.{first_outside}
use Rattle.permute_walks.proofs.Outside.{outside_told}
use Rattle.permute_walks.proofs.TakenOr.{nothing_at}
use Rattle.segmented_permutes.specs.Backs.{outside_from, values_at}
use Rattle.cvl_base.proofs.Lists.{sum-cons}
use Rattle.cvl_base.proofs.Nests.{length-cut, nest-fits}
use Rattle.permute_walks.proofs.EndToEnd.{left_more}
use Rattle.segmented_permutes.proofs.Whole.{beside-fits}

-- ---- the values of some places and then of others

module _ {X : Type 0} where
  -- a fault of a segment stands at its place in the whole
  moved_to : (number : FaultNo) (n k : ℕ) (vs : List (Option X)) → moved (λ p. n + p) (values_from number k vs) ≡ values_from number (n + k) vs
  moved_to number n k [] = refl
  moved_to number n k (None ∷ vs) = refl
  moved_to number n k (Some x ∷ vs) =
      onto (values_from number (k + 1) vs) ∙ ap (λ r. r >>= λ ys. Ok (x ∷ ys)) (moved_to number n (k + 1) vs) ∙ ap (λ p. values_from number p vs >>= λ ys. Ok (x ∷ ys)) (omega arith)
    where
      onto : (r : Result (List X) Fault) → moved (λ p. n + p) (r >>= λ ys. Ok (x ∷ ys)) ≡ (moved (λ p. n + p) r >>= λ ys. Ok (x ∷ ys))
      onto (Ok ys) = refl
      onto (Err f) = refl

  -- a segment in front of others
  chained : (first : Result (List X) Fault) (others : Result (List (List X)) Fault)
      → ((first >>= λ r. others >>= λ rs. Ok (r ∷ rs)) >>= λ lists. Ok (joined lists)) ≡ (first >>= λ r. after r (others >>= λ lists. Ok (joined lists)))
  chained (Ok r) (Ok rs) = refl
  chained (Ok r) (Err f) = refl
  chained (Err f) others = refl

  values_both : (number : FaultNo) (place : ℕ) (vs ws : List (Option X))
      → values_from number place (vs ++ ws) ≡ (values_from number place vs >>= λ xs. after xs (values_from number (place + length vs) ws))
  values_both number place [] ws = same (values_from number place ws) ∙ ap (λ p. after [] (values_from number p ws)) (omega arith)
    where
      same : (r : Result (List X) Fault) → r ≡ after [] r
      same (Ok xs) = refl
      same (Err f) = refl
  values_both number place (None ∷ vs) ws = refl
  values_both number place (Some x ∷ vs) ws =
      let next : place + 1 + length vs ≡ place + length (Some x ∷ vs) = omega arith in
      ap (λ r. r >>= λ zs. Ok (x ∷ zs)) (values_both number (place + 1) vs ws)
      ∙ in_front (values_from number (place + 1) vs) (values_from number (place + 1 + length vs) ws)
      ∙ ap (λ p. (values_from number (place + 1) vs >>= λ ys. Ok (x ∷ ys)) >>= λ ys. after ys (values_from number p ws)) next
    where
      in_front : (first others : Result (List X) Fault) → ((first >>= λ ys. after ys others) >>= λ zs. Ok (x ∷ zs)) ≡ ((first >>= λ ys. Ok (x ∷ ys)) >>= λ ys. after ys others)
      in_front (Ok ys) (Ok zs) = refl
      in_front (Ok ys) (Err f) = refl
      in_front (Err f) others = refl

-- ---- the definition

back_walked : {X : Type 0} (lengths : List ℕ) (s place : ℕ) (widths left : List ℕ) (xs : List X) (is : List ℤ) → drop s lengths ≡ left → sum (take s lengths) ≡ place → length widths ≡ length left
    → sum left ≤ length is
    → (results_from (in_vector lengths) (of_two back_of) s (zip (cut_of widths xs) (cut_of left is)) >>= λ lists. Ok (joined lists))
    ≡ values_from IndexOutOfRange place (values_at widths xs left is)
back_walked lengths s place [] left xs is lefts there count within = refl
back_walked lengths s place (m ∷ ms) [] xs is lefts there count within = absurd (omega (arith, count))
back_walked lengths s place (m ∷ ms) (n ∷ ns) xs is lefts there count within =
    let on = left_more lengths s n ns lefts in
    let vs = map (element_at (take m xs)) (take n is) in
    let others = values_at ms (drop m xs) ns (drop n is) in
    let all = sum-cons n ns in
    let long : length vs ≡ n = length-map (take n is) (element_at (take m xs)) ∙ length-take-le n is (omega (arith, all, within)) in
    let first : moved (in_vector lengths s) (values_from IndexOutOfRange 0 vs) ≡ values_from IndexOutOfRange place vs =
    moved_to IndexOutOfRange (sum (take s lengths)) 0 vs ∙ ap (λ p. values_from IndexOutOfRange p vs) (omega (arith, there)) in
    let behind = back_walked lengths (s + 1) (place + n) ms ns (drop m xs) (drop n is) on.0 (omega (arith, on.1, there)) (omega (arith, count)) (omega (arith, all, within, length-drop n is))
    ∙ ap (λ k. values_from IndexOutOfRange (place + k) others) (sym long) in
    chained (moved (in_vector lengths s) (values_from IndexOutOfRange 0 vs)) (results_from (in_vector lengths) (of_two back_of) (s + 1) (zip (cut_of ms (drop m xs)) (cut_of ns (drop n is))))
    ∙ (λ i. first i >>= λ ys. after ys (behind i))
    ∙ sym (values_both IndexOutOfRange place vs others)

pub seg_back_values : {X : Type 0} (source : List X) (index : List ℤ) (widths lengths : List ℕ) → sum widths ≡ length source → sum lengths ≡ length index → length widths ≡ length lengths
    → seg_back_of source index widths lengths ≡ values_from IndexOutOfRange 0 (values_at widths source lengths index)
seg_back_values source index widths lengths total index_total count =
    ap (end_to_end (in_vector lengths) (of_two back_of)) (beside-fits (nest widths source) (cut_of widths source) lengths index (nest-fits widths source total) index_total
    (length-cut widths source ∙ count))
    ∙ back_walked lengths 0 0 widths lengths source index refl refl count (omega (arith, index_total))

-- ---- the first index outside

either_moved : (number : FaultNo) (o others : Option ℕ)
    → option_or (option_map (λ p. fault_at number p) o) (option_map (λ p. fault_at number p) others) ≡ option_map (λ p. fault_at number p) (option_or o others)
either_moved number (Some p) others = refl
either_moved number None others = refl

pub outside_valued : {X : Type 0} (place : ℕ) (widths : List ℕ) (source : List X) (lengths : List ℕ) (index : List ℤ) → sum widths ≤ length source → sum lengths ≤ length index
    → outside_from place widths lengths index ≡ option_map (λ p. fault_at IndexOutOfRange p) (first_without place (values_at widths source lengths index))
outside_valued place [] source lengths index wide total = refl
outside_valued place (m ∷ ms) source [] index wide total = refl
outside_valued place (m ∷ ms) source (n ∷ ns) index wide total =
    let ys = take m source in
    let js = take n index in
    let vs = map (element_at ys) js in
    let others = values_at ms (drop m source) ns (drop n index) in
    let widths = sum-cons m ms in
    let all = sum-cons n ns in
    let width : length ys ≡ m = length-take-le m source (omega (arith, widths, wide)) in
    let long : length vs ≡ n = length-map js (element_at ys) ∙ length-take-le n index (omega (arith, all, total)) in
    let here : first_outside place m js ≡ option_map (λ p. fault_at IndexOutOfRange p) (first_without place vs) = ap (λ k. first_outside place k js) (sym width) ∙ outside_told place ys js in
    let behind = outside_valued (place + n) ms (drop m source) ns (drop n index) (omega (arith, widths, wide, length-drop m source)) (omega (arith, all, total, length-drop n index))
    ∙ ap (λ k. option_map (λ p. fault_at IndexOutOfRange p) (first_without (place + k) others)) (sym long) in
    (λ i. option_or (here i) (behind i))
    ∙ either_moved IndexOutOfRange (first_without place vs) (first_without (place + length vs) others)
    ∙ ap (option_map (λ p. fault_at IndexOutOfRange p)) (sym (first_of_both place vs others))

-- ---- a source without an element

pub nothing_there : {X : Type 0} (widths lengths : List ℕ) (index : List ℤ) → All (λ v. v ≡ None) (values_at {X = X} widths [] lengths index)
nothing_there [] lengths index = All-nil (λ v. v ≡ None)
nothing_there (m ∷ ms) [] index = All-nil (λ v. v ≡ None)
nothing_there {X = X} (m ∷ ms) (n ∷ ns) index =
    All-append (λ v. v ≡ None) (map (element_at (take m [])) (take n index)) (values_at {X = X} ms (drop m []) ns (drop n index))
    (subst (λ ys. All (λ v. v ≡ None) (map (element_at ys) (take n index))) (sym (take-nil {A = X} m)) (nothing_at (take n index)))
    (subst (λ ys. All (λ v. v ≡ None) (values_at ms ys ns (drop n index))) (sym (drop-nil {A = X} m)) (nothing_there ms ns (drop n index)))
