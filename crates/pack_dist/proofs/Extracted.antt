-- The segments of an extract, and of a replace before its values: each has its elements and an index.
use Rattle.std.proofs.Common.{◌≡◌, ◌≢◌, ◌∙◌, ℕ, ◌+◌, ◌<◌, ◌≤◌, ℤ, pos, List, [], length, take, drop, get_or, ◌++◌, ◌∷◌, refl, sym, ap, arith, Ok, Err}
use Rattle.std.specs.Prelude.{sum}
use Rattle.std.specs.List.{zip}
use Rattle.std.proofs.lemmas.Slice.Zip.{length-zip}
use Rattle.cvl_base.specs.declared.fault.FaultNo.TheVariants as no
use Rattle.cvl_base.specs.Extracts.{extract_of}
use Rattle.cvl_base.specs.Faults.{fault, fault_at}
use Rattle.cvl_base.specs.Nests.{cut_of, nest}
use Rattle.cvl_base.specs.Segmented.{beside, of_two, at_segment, one_each}
use Rattle.cvl_base.specs.SegmentedCalls.{seg_extract_of}
use Rattle.cvl_base.proofs.Extracts.{Names, NamesNone, extract_some, extract_none}
use Rattle.cvl_base.proofs.Nests.{length-cut, nest-fits}
use Rattle.cvl_base.proofs.Segmented.{beside-fits, beside-misfits}
use Rattle.scan_walks.proofs.Parts.{IsSegment, StandsAt, both, part, part_read, part_long, part_short, stands}
use Rattle.scan_walks.proofs.Walk.{Walked, all_done, begins, fails, one_more, single, singles}

module _ {X : Type 0} (xs : List X) (index : List ℤ) (lengths : List ℕ) where
  -- the elements of each segment and its index
  abbrev pub indexed : List (List X × ℤ)
  indexed = zip (cut_of lengths xs) index

  pub indexed-fits : sum lengths ≡ length xs → length lengths ≡ length index → beside (nest lengths xs) (Ok index) ≡ Ok indexed
  indexed-fits fits same = ap (λ lists. beside lists (Ok index)) (nest-fits lengths xs fits) ∙ beside-fits (cut_of lengths xs) index (length-cut lengths xs ∙ same)

  pub indexed-misfits : sum lengths ≡ length xs → length lengths ≢ length index → beside (nest lengths xs) (Ok index) ≡ Err (fault no.LengthMismatch)
  indexed-misfits fits unlike =
      ap (λ lists. beside lists (Ok index)) (nest-fits lengths xs fits)
      ∙ beside-misfits (cut_of lengths xs) index (λ same. unlike (sym (length-cut lengths xs) ∙ same))

  pub length-indexed : length lengths ≡ length index → length indexed ≡ length lengths
  length-indexed same = omega (arith, same, length-cut lengths xs, length-zip (cut_of lengths xs) index)

  pub indexed-at : (s start n : ℕ) → IsSegment lengths s start n → s < length index → StandsAt indexed s (take n (drop start xs), get_or index s (pos 0))
  indexed-at s start n here in_index = both (part here xs) (stands index s (get_or index s (pos 0)) (pos 0) in_index refl)

  -- ---- extracts

  -- these elements are done when an extract comes to segment s
  abbrev pub Extracting : ℕ → List X → Type 0
  Extracting s done = Walked single at_segment (of_two extract_of) indexed s done (seg_extract_of xs index lengths)

  pub extract-misfits : sum lengths ≡ length xs → length lengths ≢ length index → seg_extract_of xs index lengths ≡ Err (fault no.LengthMismatch)
  extract-misfits fits unlike = ap (one_each at_segment (of_two extract_of)) (indexed-misfits fits unlike)

  pub extract-begins : (done : List X) → sum lengths ≡ length xs → length lengths ≡ length index → done ≡ [] → Extracting 0 done
  extract-begins done fits same none =
      begins done (seg_extract_of xs index lengths) none (ap (one_each at_segment (of_two extract_of)) (indexed-fits fits same) ∙ singles _)

  module _ (s : ℕ) (done : List X) (walked : Extracting s done) where
    pub extract-ends : length lengths ≤ s → seg_extract_of xs index lengths ≡ Ok done
    extract-ends ge = all_done walked (omega (arith, ge, length-cut lengths xs, length-zip (cut_of lengths xs) index))

    -- the next segment
    module _ (start n : ℕ) (here : IsSegment lengths s start n) (in_index : s < length index) where
      abbrev elements : List X
      elements = take n (drop start xs)

      pub extract-more : (place : ℕ) (x : X) (now : List X) → sum lengths ≡ length xs → Names n (get_or index s (pos 0)) start place → x ≡ get_or xs place x → now ≡ done ++ x ∷ []
          → Extracting (s + 1) now
      extract-more place x now fits named read grown =
          one_more walked (indexed-at s start n here in_index) x now
          (extract_some elements (get_or index s (pos 0)) named.0 x named.2 (omega (arith, named.1, part_long here xs fits))
          (part_read xs start n named.0 x named.1 (read ∙ ap (λ (p : ℕ). get_or xs p x) named.3))) grown

      pub extract-fails : NamesNone n (get_or index s (pos 0)) → seg_extract_of xs index lengths ≡ Err (fault_at no.IndexOutOfRange s)
      extract-fails none =
          fails walked (indexed-at s start n here in_index) (fault_at no.IndexOutOfRange 0)
          (extract_none elements (get_or index s (pos 0)) (λ k named. omega (arith, none k named, part_short xs start n)))
