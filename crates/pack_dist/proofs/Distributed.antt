-- The lists of a distribute and of an index, one for each segment: each is as long as its segment.
use Rattle.pack_dist.proofs.Cited.{◌≡◌, ◌≢◌, ◌∙◌, ℕ, ◌+◌, ◌<◌, ◌≤◌, ℤ, pos, ◌+ℤ◌, ◌*ℤ◌, List, [], ◌∷◌, length, map, get_or, replicate, refl, sym, ap, arith, Result, Ok, Err, sum, zip, get_or-map}
use Rattle.pack_dist.proofs.Cited.{length-map, length-replicate, length-map-range_with_len, sum_by_more_le, get_or-zip, length-zip, Fault, fault, ◌>>=◌, wrap, beside, of_two, of_three, in_vector}
use Rattle.pack_dist.proofs.Cited.{end_to_end, moved, results_from, seg_index_within, sum-cons, beside-fits, beside-misfits}
use Rattle.cvl_base.specs.declared.fault.FaultNo.TheVariants as no
use Rattle.cvl_base.specs.Distributes.{distribute_within, index_within}
use Rattle.cvl_base.specs.Lists.{joined}
use Rattle.cvl_base.proofs.Distributes.{length_within-fits}
use Rattle.pack_dist.specs.Lists.{progressions_of}
use Rattle.pack_dist.specs.Progressions.{progression}
use Rattle.segdes.proofs.ListRuns.{whole-long}

-- a call of an argument and a length gives a list of that length where this is no longer than the longest vector
pub record GivesLists {S X : Type 0} (most : ℕ) (call : S × ℕ → Result (List X) Fault) (list : S × ℕ → List X) : Type 0 where
  pub gives : (x : S) (n : ℕ) → n ≤ most → call (x, n) ≡ Ok (list (x, n))
  pub long : (x : S) (n : ℕ) → length (list (x, n)) ≡ n

module _ {S X : Type 0} {most : ℕ} {call : S × ℕ → Result (List X) Fault} {list : S × ℕ → List X} (is : GivesLists most call list) where
  each-fits : (place : ℕ → ℕ → ℕ) (s : ℕ) (xs : List S) (lengths : List ℕ) → sum lengths ≤ most → results_from place call s (zip xs lengths) ≡ Ok (map list (zip xs lengths))
  each-fits place s [] lengths small = refl
  each-fits place s (x ∷ xs) [] small = refl
  each-fits place s (x ∷ xs) (n ∷ ns) small =
      ap (λ r. moved (place s) r >>= λ first. results_from place call (s + 1) (zip xs ns) >>= λ rs. Ok (first ∷ rs)) (is.gives x n (omega (arith, small, sum-cons n ns)))
      ∙ ap (λ rest. rest >>= λ rs. Ok (list (x, n) ∷ rs)) (each-fits place (s + 1) xs ns (omega (arith, small, sum-cons n ns)))

  pub lists-long : (xs : List S) (lengths : List ℕ) → length xs ≡ length lengths → lengths ≡ map length (map list (zip xs lengths))
  lists-long [] [] same = refl
  lists-long [] (n ∷ ns) same = absurd (omega arith)
  lists-long (x ∷ xs) [] same = absurd (omega arith)
  lists-long (x ∷ xs) (n ∷ ns) same = let others = lists-long xs ns (omega arith) in λ i. sym (is.long x n) i ∷ others i

  module _ (xs : List S) (lengths : List ℕ) (same : length xs ≡ length lengths) where
    pub lists-whole : sum lengths ≡ length (joined (map list (zip xs lengths)))
    lists-whole = sym (whole-long (map list (zip xs lengths)) lengths (lists-long xs lengths same))

    pub lists-fit : sum lengths ≤ most → end_to_end (in_vector lengths) call (beside (Ok xs) (Ok lengths)) ≡ Ok (joined (map list (zip xs lengths)))
    lists-fit small =
        ap (end_to_end (in_vector lengths) call) (beside-fits xs lengths same)
        ∙ ap (λ r. r >>= λ lists. Ok (joined lists)) (each-fits (in_vector lengths) 0 xs lengths small)

    -- so many items of the list of a segment
    module _ (s : ℕ) (in_lists : s < length (map list (zip xs lengths))) where
      pub in-both : (s < length xs) × (s < length lengths)
      in-both = (omega (arith, length-map (zip xs lengths) list, length-zip xs lengths), omega (arith, length-map (zip xs lengths) list, length-zip xs lengths))

      pub list-at : (x : S) → get_or (map list (zip xs lengths)) s [] ≡ list (get_or xs s x, get_or lengths s 0)
      list-at x =
          get_or-map list (zip xs lengths) s (x, 0) [] (omega (arith, length-map (zip xs lengths) list)) ∙ ap list (get_or-zip xs lengths s (x, 0) in-both.0 in-both.1)

      pub list-within : (x : S) (k : ℕ) → k ≤ length (get_or (map list (zip xs lengths)) s []) → (k ≤ get_or lengths s 0) × (k ≤ sum lengths)
      list-within x k le =
          let within : k ≤ get_or lengths s 0 = omega (arith, le, ap length (list-at x), is.long (get_or xs s x) (get_or lengths s 0)) in
          (within, omega (arith, within, sum_by_more_le (λ x. x) lengths s 0 in-both.1))

-- ---- copies of a value

pub copies : {X : Type 0} → (most : ℕ) → GivesLists {S = X} {X = X} most (of_two (λ value n. distribute_within most value (pos n))) (λ p. replicate p.1 p.0)
copies most = record {
  gives = λ value n small. ap (λ r. r >>= λ k. Ok (replicate k value)) (length_within-fits most n small);
  long = λ value n. length-replicate n value;
}

-- ---- numbers in equal steps

pub progression-long : (init stride : ℤ) (n : ℕ) → length (progression init stride n) ≡ n
progression-long init stride n = length-map-range_with_len (λ k. wrap (init +ℤ pos k *ℤ stride)) 0 n

pub numbers : (most : ℕ) → GivesLists most (of_three (λ init stride n. index_within most init stride (pos n))) (λ p. progression p.0.0 p.0.1 p.1)
numbers most = record {
  gives = λ p n small. ap (λ r. r >>= λ k. Ok (progression p.0 p.1 k)) (length_within-fits most n small);
  long = λ p n. progression-long p.0 p.1 n;
}

-- each segment has an init and a stride
pub in-steps : (inits strides : List ℤ) (lengths : List ℕ) → length (zip inits strides) ≡ length lengths → (s : ℕ) → s < length (progressions_of inits strides lengths)
    → (s < length inits) × (s < length strides)
in-steps inits strides lengths same s lt =
    let both = in-both (numbers 0) (zip inits strides) lengths same s lt in (omega (arith, both, length-zip inits strides), omega (arith, both, length-zip inits strides))

module _ (most : ℕ) (inits strides : List ℤ) (lengths : List ℕ) (pairs : length inits ≡ length strides) where
  pub steps-long : length (zip inits strides) ≡ length inits
  steps-long = omega (arith, pairs, length-zip inits strides)

  abbrev call : Result (List (ℤ × ℤ)) Fault → Result (List ℤ) Fault
  call steps = end_to_end (in_vector lengths) (of_three (λ init stride n. index_within most init stride (pos n))) (beside steps (Ok lengths))

  pub index-misfits : length inits ≢ length lengths → seg_index_within most inits strides lengths ≡ Err (fault no.LengthMismatch)
  index-misfits unlike =
      ap call (beside-fits inits strides pairs)
      ∙ ap (end_to_end (in_vector lengths) (of_three (λ init stride n. index_within most init stride (pos n))))
      (beside-misfits (zip inits strides) lengths (λ same. unlike (sym steps-long ∙ same)))

  pub index-fits : length inits ≡ length lengths → sum lengths ≤ most → seg_index_within most inits strides lengths ≡ Ok (joined (progressions_of inits strides lengths))
  index-fits same small = ap call (beside-fits inits strides pairs) ∙ lists-fit (numbers most) (zip inits strides) lengths (steps-long ∙ same) small
