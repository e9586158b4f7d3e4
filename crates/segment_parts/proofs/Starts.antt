-- The segments that start in a part: all but the last, and the last, which has what is left of the part.
use Rattle.std.proofs.Common.{◌≡◌, ◌+◌, ◌-◌, ◌≤◌, ◌∙◌, ℕ, suc, ℤ, pos, true, not, List, [], ◌∷◌, ◌++◌, length, map, take, drop, Ok, refl, sym, ap, arith}
use Rattle.std.proofs.Common.{subst, drop-drop, length-append, length-drop, take_all, sum, unsigned_abs}
use Rattle.std.proofs.lemmas.List.{map-append, take_at}
use Rattle.cvl_base.proofs.Lists.{sum-cons}
use Rattle.cvl_base.specs.Descriptors.{AreLengthsWithin}
use Rattle.cvl_base.specs.declared.fault.FaultNo.TheVariants as no
use Rattle.cvl_base.specs.Faults.{fault}
use Rattle.cvl_base.specs.Folds.{fold_of}
use Rattle.cvl_base.specs.Gives.{fault_if}
use Rattle.cvl_base.specs.Limits.{most_places}
use Rattle.cvl_base.specs.Nests.{cut_of}
use Rattle.range_walks.proofs.Segments.{range_lengths}
use Rattle.range_walks.specs.Ranges.{reduces_of}
use Rattle.scan_walks.proofs.Segmented.{length-reduces_of}
use Rattle.segment_parts.specs.Reduces.{but_last, is_part, join_last, part_reduces_of, start_reduces_of}

but_last-push : {X : Type 0} (xs : List X) (x : X) → but_last (xs ++ x ∷ []) ≡ xs
but_last-push xs x = take_at xs (x ∷ []) (length (xs ++ x ∷ []) - 1) (omega (arith, length-append xs (x ∷ [])))

-- the last segment has the elements that are left
cut-last : {X : Type 0} (ns : List ℕ) (n : ℕ) (xs : List X) → length xs ≤ sum ns + n → cut_of (ns ++ n ∷ []) xs ≡ cut_of ns xs ++ drop (sum ns) xs ∷ []
cut-last [] n xs few = ap (λ ys. ys ∷ []) (take_all n xs (omega (arith, few)))
cut-last (m ∷ ns) n xs few =
    let behind : drop (sum ns) (drop m xs) ≡ drop (sum (m ∷ ns)) xs = drop-drop (sum ns) m xs ∙ ap (λ k. drop k xs) (omega (arith, sum-cons m ns)) in
    ap (λ cuts. take m xs ∷ cuts) (cut-last ns n (drop m xs) (omega (arith, few, sum-cons m ns, length-drop m xs)))
    ∙ ap (λ ys. take m xs ∷ (cut_of ns (drop m xs) ++ ys ∷ [])) behind

module _ {Item : Type 0} (join : Item → Item → Item) where
  join_last-push : (xs : List Item) (x more : Item) → join_last join (xs ++ x ∷ []) more ≡ xs ++ join x more ∷ []
  join_last-push [] x more = refl
  join_last-push (y ∷ []) x more = refl
  join_last-push (y ∷ z ∷ ys) x more = ap (λ zs. y ∷ zs) (join_last-push (z ∷ ys) x more)

  pub length-join_last : (xs : List Item) (more : Item) → length (join_last join xs more) ≡ length xs
  length-join_last [] more = refl
  length-join_last (x ∷ []) more = refl
  length-join_last (x ∷ y ∷ others) more = ap suc (length-join_last (y ∷ others) more)

module _ {Item : Type 0} (join : Item → Item → Item) (unit behind : Item) (head : ℕ) (lengths : List ℕ) (xs : List Item) where
  pub part-fits : is_part head lengths (length xs) ≡ true → part_reduces_of join unit behind head lengths xs ≡ Ok (start_reduces_of join unit behind head lengths xs)
  part-fits is = ap (λ b. fault_if (not b) (fault no.LengthMismatch) (Ok (start_reduces_of join unit behind head lengths xs))) is

  pub length-start_reduces : length (start_reduces_of join unit behind head lengths xs) ≡ length lengths
  length-start_reduces = length-join_last join (reduces_of join unit lengths (drop head xs)) behind ∙ length-reduces_of join unit (drop head xs) lengths

-- lengths that are read from a row of all but the last and of the last
module _ (row whole : List ℤ) (last : ℤ) (lengths : List ℕ) (read : map unsigned_abs row ≡ lengths) (cut : row ≡ whole ++ last ∷ []) where
  parted : lengths ≡ map unsigned_abs whole ++ unsigned_abs last ∷ []
  parted = sym read ∙ ap (map unsigned_abs) cut ∙ map-append unsigned_abs whole (last ∷ [])

  pub is_but_last : but_last lengths ≡ map unsigned_abs whole
  is_but_last = ap but_last parted ∙ but_last-push (map unsigned_abs whole) (unsigned_abs last)

  pub whole_lengths : row ≡ map pos lengths → AreLengthsWithin most_places row → AreLengthsWithin most_places whole
  whole_lengths is are =
      subst (AreLengthsWithin most_places) (ap (take (length whole)) cut ∙ take_at whole (last ∷ []) (length whole) refl)
      (range_lengths row lengths 0 (length whole) is are)

  -- their reduces are those of the segments before the last, and that of the elements that are left, joined with what goes on behind them
  pub reduces-last : {Item : Type 0} (join : Item → Item → Item) (unit behind : Item) (xs : List Item) → length xs ≤ sum lengths
      → join_last join (reduces_of join unit lengths xs) behind
      ≡ reduces_of join unit (map unsigned_abs whole) xs ++ join (fold_of join unit (drop (sum (but_last lengths)) xs)) behind ∷ []
  reduces-last join unit behind xs few =
      let ns = map unsigned_abs whole in let n = unsigned_abs last in
      let total : sum lengths ≡ sum ns + n = ap sum parted ∙ sum-push ns n in
      let cuts : cut_of lengths xs ≡ cut_of ns xs ++ drop (sum ns) xs ∷ [] = ap (λ ls. cut_of ls xs) parted ∙ cut-last ns n xs (omega (arith, few, total)) in
      ap (λ segments. join_last join (map (fold_of join unit) segments) behind) cuts
      ∙ ap (λ values. join_last join values behind) (map-append (fold_of join unit) (cut_of ns xs) (drop (sum ns) xs ∷ []))
      ∙ join_last-push join (reduces_of join unit ns xs) (fold_of join unit (drop (sum ns) xs)) behind
      ∙ ap (λ k. reduces_of join unit ns xs ++ join (fold_of join unit (drop k xs)) behind ∷ []) (ap sum (sym is_but_last))
    where
      sum-push : (ks : List ℕ) (k : ℕ) → sum (ks ++ k ∷ []) ≡ sum ks + k
      sum-push [] k = omega (arith, sum-cons k [])
      sum-push (j ∷ ks) k = omega (arith, sum-cons j (ks ++ k ∷ []), sum-cons j ks, sum-push ks k)
