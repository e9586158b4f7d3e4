-- The merge of each segment: where the counts of all fit it is the merge of the whole vectors, else the first that does not is told.
use Rattle.std.proofs.Common.{◌≡◌, ◌≢◌, ◌∙◌, ℕ, zero, suc, ◌+◌, ◌-◌, ◌<◌, Bool, true, false, not, List, [], ◌∷◌, ◌++◌, length, take, drop, get_or, map, sum, zip, refl, sym, ap, arith, length-drop}
use Rattle.std.proofs.Common.{length-take-le, Ok, Err, Result}
use Rattle.std.specs.Result.{IsErrAnd, MatchResult}
use Rattle.cvl_base.specs.declared.fault.Fault.{Fault}
use Rattle.std.proofs.lemmas.List.{get_or-map, nil_from_length, take-append-drop}
use Rattle.std.proofs.lemmas.Slice.Zip.{get_or-zip, length-zip}
use Rattle.cvl_base.specs.declared.fault.FaultNo.TheVariants.{LengthMismatch}
use Rattle.cvl_base.specs.Faults.{fault, fault_at}
use Rattle.cvl_base.specs.Gives.{◌>>=◌}
use Rattle.cvl_base.specs.Lists.{joined}
use Rattle.cvl_base.specs.Nests.{cut_of, nest}
use Rattle.cvl_base.specs.Packs.{count_of}
use Rattle.cvl_base.specs.Segmented.{at_segment, beside, end_to_end, moved, of_three, results_from}
use Rattle.cvl_base.proofs.Lists.{sum-cons}
use Rattle.cvl_base.proofs.Nests.{cut_at, length-cut, lengths-cut, nest-fits, nest-misfits}
use Rattle.cvl_base.proofs.Packs.{count-cons}
use Rattle.cvl_base.proofs.Segmented.{beside-fits, beside-misfits}
use Rattle.flag_merges.specs.Merges.{AreCounts, are_counts, merge_or, merged, seg_merge_of}
use Rattle.flag_merges.proofs.Counted.{count-append, count-append-not, falses_fit, merge_fails, merge_right, trues_fit}

-- ---- the merge of two pieces, one behind another

pub merged-append : {X : Type 0} (flags others : List Bool) (xs more ys rest : List X) → count_of flags ≡ length xs → count_of (map not flags) ≡ length ys
    → merged (flags ++ others) (xs ++ more) (ys ++ rest) ≡ merged flags xs ys ++ merged others more rest
merged-append [] others [] more [] rest t f = refl
merged-append [] others (x ∷ xs) more ys rest t f = absurd (omega (arith, t))
merged-append [] others [] more (y ∷ ys) rest t f = absurd (omega (arith, f))
merged-append (true ∷ flags) others [] more ys rest t f = absurd (omega (arith, t, count-cons true flags))
merged-append (true ∷ flags) others (x ∷ xs) more ys rest t f =
    ap (λ zs. x ∷ zs) (merged-append flags others xs more ys rest (omega (arith, t, count-cons true flags)) (omega (arith, f, count-cons false (map not flags))))
merged-append (false ∷ flags) others xs more [] rest t f = absurd (omega (arith, f, count-cons true (map not flags)))
merged-append (false ∷ flags) others xs more (y ∷ ys) rest t f =
    ap (λ zs. y ∷ zs) (merged-append flags others xs more ys rest (omega (arith, t, count-cons false flags)) (omega (arith, f, count-cons true (map not flags))))

-- ---- a segment where it stands

pub segment_is : (ns : List ℕ) (flags : List Bool) (s first n : ℕ) → s < length ns → first ≡ sum (take s ns) → n ≡ get_or ns s 0
    → take (first + n - first) (drop first flags) ≡ get_or (cut_of ns flags) s []
segment_is ns flags s first n lt first_is n_is =
    let wide : first + n - first ≡ get_or ns s 0 = omega (arith, n_is) in
    (λ i. take (wide i) (drop (first_is i) flags)) ∙ sym (cut_at ns flags s lt)

-- a fault that is told on
pub told_on : {Y : Type 0} (answer : Result (Unit {0}) Fault) (f : Fault) (meaning : Result Y Fault) (P : Type 0) → IsErrAnd answer (λ e. e ≡ f) → meaning ≡ Err f
    → MatchResult answer (λ _. P) (λ e. meaning ≡ Err e)
told_on (Ok u) f meaning P is means = absurd is
told_on (Err e) f meaning P is means = means ∙ ap Err (sym is)

-- ---- some segments: flags, and what stands for the true and for the false ones

abbrev pub Part : Type 0 → Type 0
Part X = (List Bool × List X) × List X

module _ {X : Type 0} where
  abbrev merge_part : Part X → List X
  merge_part p = merged p.0.0 p.0.1 p.1

  abbrev fits_at : List (Part X) → ℕ → Bool
  fits_at parts s = let p = get_or parts s (([], []), []) in are_counts p.0.0 (length p.0.1) (length p.1)

  all_right : (s : ℕ) (parts : List (Part X)) → ((k : ℕ) → k < length parts → fits_at parts k ≡ true)
      → results_from at_segment (of_three (merge_or (fault_at LengthMismatch 0))) s parts ≡ Ok (map merge_part parts)
  all_right s [] each = refl
  all_right s (p ∷ parts) each =
      ap (λ r. moved (at_segment s) r >>= λ z. results_from at_segment (of_three (merge_or (fault_at LengthMismatch 0))) (s + 1) parts >>= λ zs. Ok (z ∷ zs))
      (merge_right (fault_at LengthMismatch 0) p.0.0 p.0.1 p.1 (each 0 (omega arith)))
      ∙ ap (λ r. r >>= λ zs. Ok (merge_part p ∷ zs)) (all_right (s + 1) parts (λ k lt. each (suc k) (omega arith)))

  first_wrong : (s : ℕ) (parts : List (Part X)) (k : ℕ) → k < length parts → ((j : ℕ) → j < k → fits_at parts j ≡ true) → fits_at parts k ≡ false
      → results_from at_segment (of_three (merge_or (fault_at LengthMismatch 0))) s parts ≡ Err (fault_at LengthMismatch (s + k))
  first_wrong s [] k lt each wrong = absurd (omega arith)
  first_wrong s (p ∷ parts) zero lt each wrong =
      ap (λ r. moved (at_segment s) r >>= λ z. results_from at_segment (of_three (merge_or (fault_at LengthMismatch 0))) (s + 1) parts >>= λ zs. Ok (z ∷ zs))
      (merge_fails (fault_at LengthMismatch 0) p.0.0 p.0.1 p.1 wrong)
      ∙ ap (λ place. Err (fault_at LengthMismatch place)) (omega arith)
  first_wrong s (p ∷ parts) (suc k) lt each wrong =
      ap (λ r. moved (at_segment s) r >>= λ z. results_from at_segment (of_three (merge_or (fault_at LengthMismatch 0))) (s + 1) parts >>= λ zs. Ok (z ∷ zs))
      (merge_right (fault_at LengthMismatch 0) p.0.0 p.0.1 p.1 (each 0 (omega arith)))
      ∙ ap (λ r. r >>= λ zs. Ok (merge_part p ∷ zs)) (first_wrong (s + 1) parts k (omega arith) (λ j below. each (suc j) (omega arith)) wrong)
      ∙ ap (λ place. Err (fault_at LengthMismatch place)) (omega arith)

-- ---- the segments of a vector of flags and of two others

module _ {X : Type 0} where
  abbrev pub parts : List Bool → List ℕ → List X → List ℕ → List X → List ℕ → List (Part X)
  parts flags ns xs ts ys fs = zip (zip (cut_of ns flags) (cut_of ts xs)) (cut_of fs ys)

  -- one behind another they merge to the merge of the whole
  parts_merged : (ns ts fs : List ℕ) (flags : List Bool) (xs ys : List X) → length ns ≡ length ts → length ns ≡ length fs → sum ns ≡ length flags → sum ts ≡ length xs → sum fs ≡ length ys
      → AreCounts flags ns ts fs → (joined (map merge_part (parts flags ns xs ts ys fs)) ≡ merged flags xs ys) × (count_of flags ≡ length xs) × (count_of (map not flags) ≡ length ys)
  parts_merged [] [] [] flags xs ys count other total true_total false_total each =
      let no_flags : flags ≡ [] = nil_from_length flags (sym total) in
      (ap (λ us. merged us xs ys) (sym no_flags), ap count_of no_flags ∙ true_total, ap (λ us. count_of (map not us)) no_flags ∙ false_total)
  parts_merged [] (t ∷ ts) fs flags xs ys count other total true_total false_total each = absurd (omega (arith, count))
  parts_merged [] [] (f ∷ fs) flags xs ys count other total true_total false_total each = absurd (omega (arith, other))
  parts_merged (n ∷ ns) [] fs flags xs ys count other total true_total false_total each = absurd (omega (arith, count))
  parts_merged (n ∷ ns) (t ∷ ts) [] flags xs ys count other total true_total false_total each = absurd (omega (arith, other))
  parts_merged (n ∷ ns) (t ∷ ts) (f ∷ fs) flags xs ys count other total true_total false_total each =
      let true_here : count_of (take n flags) ≡ length (take t xs) =
      trues_fit (take n flags) t f (each 0 (omega arith)) ∙ sym (length-take-le t xs (omega (arith, true_total, sum-cons t ts))) in
      let false_here : count_of (map not (take n flags)) ≡ length (take f ys) =
      falses_fit (take n flags) t f (each 0 (omega arith)) ∙ sym (length-take-le f ys (omega (arith, false_total, sum-cons f fs))) in
      let rest = parts_merged ns ts fs (drop n flags) (drop t xs) (drop f ys) (omega (arith, count)) (omega (arith, other))
      (omega (arith, total, sum-cons n ns, length-drop n flags)) (omega (arith, true_total, sum-cons t ts, length-drop t xs)) (omega (arith, false_total, sum-cons f fs, length-drop f ys))
      (λ s lt. each (suc s) (omega arith)) in
      let whole = take-append-drop n flags in (
        ap (λ zs. merged (take n flags) (take t xs) (take f ys) ++ zs) rest.0
            ∙ sym (merged-append (take n flags) (drop n flags) (take t xs) (drop t xs) (take f ys) (drop f ys) true_here false_here)
            ∙ (λ i. merged (whole i) (take-append-drop t xs i) (take-append-drop f ys i)),
        ap count_of (sym whole) ∙ count-append (take n flags) (drop n flags)
            ∙ omega (arith, trues_fit (take n flags) t f (each 0 (omega arith)), rest.1, true_total, sum-cons t ts, length-drop t xs),
        ap (λ us. count_of (map not us)) (sym whole) ∙ count-append-not (take n flags) (drop n flags)
            ∙ omega (arith, falses_fit (take n flags) t f (each 0 (omega arith)), rest.2, false_total, sum-cons f fs, length-drop f ys),
      )

  -- how long a segment is
  segment_long : (lengths : List ℕ) (xs : List X) (s : ℕ) → sum lengths ≡ length xs → s < length lengths → length (get_or (cut_of lengths xs) s []) ≡ get_or lengths s 0
  segment_long lengths xs s total lt =
      sym (get_or-map length (cut_of lengths xs) s [] 0 (omega (arith, lt, length-cut lengths xs)))
      ∙ ap (λ ls. get_or ls s 0) (lengths-cut lengths xs (omega (arith, total)))

  -- ---- the call

  module _ (flags : List Bool) (ns : List ℕ) (xs : List X) (ts : List ℕ) (ys : List X) (fs : List ℕ) where
    module _ (total : sum ns ≡ length flags) (true_total : sum ts ≡ length xs) where
      pub true_count_differs : length ns ≢ length ts → seg_merge_of flags ns xs ts ys fs ≡ Err (fault LengthMismatch)
      true_count_differs differ =
          ap (λ r. end_to_end at_segment (of_three (merge_or (fault_at LengthMismatch 0))) (beside r (nest fs ys)))
          ((λ i. beside (nest-fits ns flags total i) (nest-fits ts xs true_total i))
          ∙ beside-misfits (cut_of ns flags) (cut_of ts xs) (λ same. differ (sym (length-cut ns flags) ∙ same ∙ length-cut ts xs)))

      module _ (count : length ns ≡ length ts) where
        pairs_many : length (zip (cut_of ns flags) (cut_of ts xs)) ≡ length ns
        pairs_many = length-zip (cut_of ns flags) (cut_of ts xs) ∙ omega (arith, count, length-cut ns flags, length-cut ts xs)

        paired : beside (nest ns flags) (nest ts xs) ≡ Ok (zip (cut_of ns flags) (cut_of ts xs))
        paired =
            (λ i. beside (nest-fits ns flags total i) (nest-fits ts xs true_total i))
            ∙ beside-fits (cut_of ns flags) (cut_of ts xs) (length-cut ns flags ∙ count ∙ sym (length-cut ts xs))

        pub false_total_differs : sum fs ≢ length ys → seg_merge_of flags ns xs ts ys fs ≡ Err (fault LengthMismatch)
        false_total_differs differ =
            ap (end_to_end at_segment (of_three (merge_or (fault_at LengthMismatch 0)))) (λ i. beside (paired i) (nest-misfits fs ys differ i))

        module _ (false_total : sum fs ≡ length ys) where
          pub false_count_differs : length ns ≢ length fs → seg_merge_of flags ns xs ts ys fs ≡ Err (fault LengthMismatch)
          false_count_differs differ =
              ap (end_to_end at_segment (of_three (merge_or (fault_at LengthMismatch 0))))
              ((λ i. beside (paired i) (nest-fits fs ys false_total i))
              ∙ beside-misfits (zip (cut_of ns flags) (cut_of ts xs)) (cut_of fs ys) (λ same. differ (sym pairs_many ∙ same ∙ length-cut fs ys)))

          module _ (other : length ns ≡ length fs) where
            tripled : beside (beside (nest ns flags) (nest ts xs)) (nest fs ys) ≡ Ok (parts flags ns xs ts ys fs)
            tripled =
                (λ i. beside (paired i) (nest-fits fs ys false_total i))
                ∙ beside-fits (zip (cut_of ns flags) (cut_of ts xs)) (cut_of fs ys) (pairs_many ∙ other ∙ sym (length-cut fs ys))

            parts_many : length (parts flags ns xs ts ys fs) ≡ length ns
            parts_many = length-zip (zip (cut_of ns flags) (cut_of ts xs)) (cut_of fs ys) ∙ omega (arith, pairs_many, other, length-cut fs ys)

            part_at : (s : ℕ) → s < length ns → get_or (parts flags ns xs ts ys fs) s (([], []), []) ≡ ((get_or (cut_of ns flags) s [], get_or (cut_of ts xs) s []), get_or (cut_of fs ys) s [])
            part_at s lt =
                get_or-zip (zip (cut_of ns flags) (cut_of ts xs)) (cut_of fs ys) s (([], []), []) (omega (arith, lt, pairs_many)) (omega (arith, lt, other, length-cut fs ys))
                ∙ ap (λ p. (p, get_or (cut_of fs ys) s []))
                (get_or-zip (cut_of ns flags) (cut_of ts xs) s ([], []) (omega (arith, lt, length-cut ns flags)) (omega (arith, lt, count, length-cut ts xs)))

            told : (b : Bool) (s : ℕ) → s < length ns → are_counts (get_or (cut_of ns flags) s []) (get_or ts s 0) (get_or fs s 0) ≡ b → fits_at (parts flags ns xs ts ys fs) s ≡ b
            told b s lt is =
                ap (λ (p : Part X). are_counts p.0.0 (length p.0.1) (length p.1)) (part_at s lt)
                ∙ (λ i. are_counts (get_or (cut_of ns flags) s []) (segment_long ts xs s true_total (omega (arith, lt, count)) i) (segment_long fs ys s false_total (omega (arith, lt, other)) i))
                ∙ is

            called : seg_merge_of flags ns xs ts ys fs
                ≡ (results_from at_segment (of_three (merge_or (fault_at LengthMismatch 0))) 0 (parts flags ns xs ts ys fs) >>= λ lists. Ok (joined lists))
            called = ap (end_to_end at_segment (of_three (merge_or (fault_at LengthMismatch 0)))) tripled

            pub counts_fit : AreCounts flags ns ts fs → (seg_merge_of flags ns xs ts ys fs ≡ Ok (merged flags xs ys)) × (count_of flags ≡ length xs) × (count_of (map not flags) ≡ length ys)
            counts_fit each =
                let whole = parts_merged ns ts fs flags xs ys count other total true_total false_total each in (
                  called
                      ∙ ap (λ r. r >>= λ lists. Ok (joined lists)) (all_right 0 (parts flags ns xs ts ys fs)
                      (λ k lt. let below : k < length ns = omega (arith, lt, parts_many) in told true k below (each k below)))
                      ∙ ap Ok whole.0,
                  whole.1,
                  whole.2,
                )

            pub counts_differ : (s : ℕ) → s < length ns → ((k : ℕ) → k < s → are_counts (get_or (cut_of ns flags) k []) (get_or ts k 0) (get_or fs k 0) ≡ true)
                → are_counts (get_or (cut_of ns flags) s []) (get_or ts s 0) (get_or fs s 0) ≡ false → seg_merge_of flags ns xs ts ys fs ≡ Err (fault_at LengthMismatch s)
            counts_differ s lt each wrong =
                called
                ∙ ap (λ r. r >>= λ lists. Ok (joined lists))
                (first_wrong 0 (parts flags ns xs ts ys fs) s (omega (arith, lt, parts_many)) (λ k below. told true k (omega arith) (each k below)) (told false s lt wrong))
                ∙ ap (λ place. Err (fault_at LengthMismatch place)) (omega arith)
