-- The segments of a replace: each has its elements, an index and a value. The vector up to where the next segment starts is done.
use Rattle.std.proofs.Common.{◌≡◌, ◌≢◌, ◌∙◌, ℕ, ◌+◌, ◌<◌, ◌≤◌, ℤ, pos, List, [], ◌++◌, length, take, drop, set, get_or, refl, sym, ap, subst, arith, Ok, Err}
use Rattle.std.specs.Prelude.{sum}
use Rattle.std.specs.List.{zip}
use Rattle.std.proofs.lemmas.List.{drop-drop, drop-set-add, drop-set-lt, take_all, take-set-le}
use Rattle.std.proofs.lemmas.Slice.Zip.{length-zip}
use Rattle.std.proofs.Math.Seq.{take-add, take-set-lt}
use Rattle.cvl_base.specs.declared.fault.FaultNo.TheVariants as no
use Rattle.cvl_base.specs.Extracts.{replace_of}
use Rattle.cvl_base.specs.Faults.{fault, fault_at}
use Rattle.cvl_base.specs.Nests.{cut_of}
use Rattle.cvl_base.specs.Segmented.{beside, of_three, at_segment, end_to_end}
use Rattle.cvl_base.specs.SegmentedCalls.{seg_replace_of}
use Rattle.cvl_base.proofs.Extracts.{Names, NamesNone, replace_some, replace_none}
use Rattle.cvl_base.proofs.Nests.{length-cut}
use Rattle.cvl_base.proofs.Segmented.{beside-fits, beside-misfits}
use Rattle.pack_dist.proofs.Extracted.{indexed, indexed-at, indexed-fits, indexed-misfits, length-indexed}
use Rattle.scan_walks.proofs.Parts.{IsSegment, StandsAt, both, part_long, part_short}
use Rattle.scan_walks.proofs.Walk.{Walked, all_done, begins, fails, itself, one_more}

-- a write of one element into those between `start` and `start + n`, where from `start` on the vector was as at first
module _ {X : Type 0} (xs : List X) (start n k : ℕ) (v : X) (held : List X) (within : k < n) (same : drop start held ≡ drop start xs) where
  written : take (start + n) (set held (start + k) v) ≡ take start held ++ set (take n (drop start xs)) k v
  written =
      take-add start n (set held (start + k) v)
      ∙ ap (λ front. front ++ take n (drop start (set held (start + k) v))) (take-set-le start held (start + k) v (omega arith))
      ∙ ap (λ rest. take start held ++ take n rest) (drop-set-add start held k v ∙ ap (λ rest. set rest k v) same)
      ∙ ap (λ elements. take start held ++ elements) (take-set-lt n (drop start xs) k v within)

  -- the elements after them are as at first
  rest_same : drop (start + n) (set held (start + k) v) ≡ drop (start + n) xs
  rest_same = drop-set-lt (start + n) held (start + k) v (omega (arith, within)) ∙ sym (drop-drop n start held) ∙ ap (drop n) same ∙ drop-drop n start xs

module _ {X : Type 0} (xs : List X) (index : List ℤ) (values : List X) (lengths : List ℕ) where
  -- the arguments of each segment
  abbrev pub valued : List ((List X × ℤ) × X)
  valued = zip (indexed xs index lengths) values

  -- the vector is done up to `start` when a replace comes to segment s, and from there on it is as at first
  pub record Replacing (s start : ℕ) (held : List X) : Type 0 where
    pub walked : Walked itself at_segment (of_three replace_of) valued s (take start held) (seg_replace_of xs index values lengths)
    pub rest : drop start held ≡ drop start xs

  pub index-misfits : sum lengths ≡ length xs → length lengths ≢ length index → seg_replace_of xs index values lengths ≡ Err (fault no.LengthMismatch)
  index-misfits fits unlike = ap (λ places. end_to_end at_segment (of_three replace_of) (beside places (Ok values))) (indexed-misfits xs index lengths fits unlike)

  module _ (fits : sum lengths ≡ length xs) (same : length lengths ≡ length index) where
    pub values-misfit : length lengths ≢ length values → seg_replace_of xs index values lengths ≡ Err (fault no.LengthMismatch)
    values-misfit unlike =
        ap (λ places. end_to_end at_segment (of_three replace_of) (beside places (Ok values))) (indexed-fits xs index lengths fits same)
        ∙ ap (end_to_end at_segment (of_three replace_of))
        (beside-misfits (indexed xs index lengths) values (λ as_many. unlike (sym (length-indexed xs index lengths same) ∙ as_many)))

    pub replace-begins : (held : List X) → length lengths ≡ length values → held ≡ xs → Replacing 0 0 held
    replace-begins held as_many is = record {
      walked = begins [] (seg_replace_of xs index values lengths) refl
          (ap (λ places. end_to_end at_segment (of_three replace_of) (beside places (Ok values))) (indexed-fits xs index lengths fits same)
          ∙ ap (end_to_end at_segment (of_three replace_of)) (beside-fits (indexed xs index lengths) values (length-indexed xs index lengths same ∙ as_many)));
      rest = is;
    }

  module _ (s start : ℕ) (held : List X) (so_far : Replacing s start held) where
    -- the next segment
    module _ (n : ℕ) (v : X) (here : IsSegment lengths s start n) (in_index : s < length index) (value : StandsAt values s v) where
      abbrev elements : List X
      elements = take n (drop start xs)

      at : StandsAt valued s ((elements, get_or index s (pos 0)), v)
      at = both (indexed-at xs index lengths s start n here in_index) value

      pub replace-more : (place : ℕ) → sum lengths ≡ length xs → Names n (get_or index s (pos 0)) start place → Replacing (s + 1) (start + n) (set held place v)
      replace-more place fits named =
          let k = named.0 in
          subst (λ (p : ℕ). Replacing (s + 1) (start + n) (set held p v)) (sym named.3)
          record {
            walked = one_more so_far.walked at (set elements k v) (take (start + n) (set held (start + k) v))
                (replace_some elements (get_or index s (pos 0)) k v named.2 (omega (arith, named.1, part_long here xs fits)))
                (written xs start n k v held named.1 so_far.rest);
            rest = rest_same xs start n k v held named.1 so_far.rest;
          }

      pub replace-fails : NamesNone n (get_or index s (pos 0)) → seg_replace_of xs index values lengths ≡ Err (fault_at no.IndexOutOfRange s)
      replace-fails none =
          fails so_far.walked at (fault_at no.IndexOutOfRange 0)
          (replace_none elements (get_or index s (pos 0)) v (λ k named. omega (arith, none k named, part_short xs start n)))

    pub replace-ends : start ≡ length xs → length held ≡ length xs → length lengths ≤ s → seg_replace_of xs index values lengths ≡ Ok held
    replace-ends all as_long ge =
        all_done so_far.walked (omega (arith, ge, length-cut lengths xs, length-zip (cut_of lengths xs) index, length-zip (indexed xs index lengths) values))
        ∙ ap Ok (take_all start held (omega (arith, as_long, all)))
