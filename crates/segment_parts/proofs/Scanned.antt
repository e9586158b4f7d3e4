-- The scans in a part: how many elements they have, where the part has enough, and what the walks over its head, its segments and its
-- tail have written.
use Rattle.std.proofs.Common.{rules, ◌≡◌, append_assoc, ◌+◌, ◌≤◌, ◌∙◌, ℕ, List, [], ◌∷◌, ◌++◌, length, map, take, drop, Result, Ok, Err, refl, sym, ap}
use Rattle.std.proofs.Common.{arith, subst, drop-drop, length-append, length-drop}
use Rattle.std.specs.Prelude.{sum}
use Rattle.std.specs.Result.{result_ok}
use Rattle.std.proofs.lemmas.Bool.{le-ltb}
use Rattle.std.proofs.lemmas.List.{drop-take, length-take-le, take-take}
use Rattle.std.proofs.lemmas.Option.{none-some, same_Some}
use Rattle.cvl_base.proofs.Lists.{sum-cons}
use Rattle.cvl_base.proofs.Rooms.{fits}
use Rattle.cvl_base.specs.declared.fault.Fault.{Fault}
use Rattle.cvl_base.specs.Folds.{scan_of}
use Rattle.cvl_base.specs.Lists.{joined}
use Rattle.cvl_base.specs.Nests.{cut_of}
use Rattle.cvl_base.specs.Rooms.{Overwrites, in_room}
use Rattle.operators.proofs.FoldLaws.{length-scan_of}
use Rattle.range_walks.proofs.Segments.{length-scans_of}
use Rattle.scan_walks.proofs.Segmented.{seg_scan-fits}
use Rattle.cvl_base.specs.SegmentedCalls.{seg_scan_of}
use Rattle.range_walks.specs.Ranges.{scans_of}
use Rattle.segment_parts.specs.Parts.{part_scan_of, scans_in_part}

-- segments are cut from the front of a list that is longer than they are
pub cut-front : {X : Type 0} (lengths : List ℕ) (xs : List X) → cut_of lengths (take (sum lengths) xs) ≡ cut_of lengths xs
cut-front [] xs = refl
cut-front (n ∷ ns) xs = search (rules, sum-cons, take-take, drop-take, cut-front ns (drop n xs))

module _ {Item : Type 0} (join : Item → Item → Item) (unit before : Item) (head : ℕ) (lengths : List ℕ) (xs : List Item) where
  pub part-fits : head + sum lengths ≤ length xs → part_scan_of join unit before head lengths xs ≡ Ok (scans_in_part join unit before head lengths xs)
  part-fits enough = rw (le-ltb (length xs) (head + sum lengths) enough) refl

  pub front-scans : scans_of join unit lengths (take (sum lengths) (drop head xs)) ≡ scans_of join unit lengths (drop head xs)
  front-scans = ap (λ segments. joined (map (scan_of join unit) segments)) (cut-front lengths (drop head xs))

  pub length-whole_scans : head + sum lengths ≤ length xs → length (scans_of join unit lengths (drop head xs)) ≡ sum lengths
  length-whole_scans enough =
      let cut : length (take (sum lengths) (drop head xs)) ≡ sum lengths = length-take-le (sum lengths) (drop head xs) (omega (arith, enough, length-drop head xs)) in
      ap length (sym front-scans) ∙ length-scans_of join unit lengths (take (sum lengths) (drop head xs)) (omega (arith, cut)) ∙ cut

  pub length-scans_in_part : head + sum lengths ≤ length xs → length (scans_in_part join unit before head lengths xs) ≡ length xs
  length-scans_in_part enough =
      let front = scan_of join before (take head xs) in
      let whole = scans_of join unit lengths (drop head xs) in
      let behind = scan_of join unit (drop (head + sum lengths) xs) in
      let long_front : length front ≡ head = length-scan_of join before (take head xs) ∙ length-take-le head xs (omega (arith, enough)) in
      let long_whole = length-whole_scans enough in
      let long_behind : length behind + (head + sum lengths) ≡ length xs =
      omega (arith, length-scan_of join unit (drop (head + sum lengths) xs), length-drop (head + sum lengths) xs, enough) in
      omega (arith, length-append (front ++ whole) behind, length-append front whole, long_front, long_whole, long_behind)

  module _ (enough : head + sum lengths ≤ length xs) (n : ℕ) (total : n ≡ sum lengths) where
    -- the segmented scan of the whole segments
    pub whole-scans : seg_scan_of join unit (take n (drop head xs)) lengths ≡ Ok (scans_of join unit lengths (drop head xs))
    whole-scans =
        let cut : length (take n (drop head xs)) ≡ n = length-take-le n (drop head xs) (omega (arith, enough, total, length-drop head xs)) in
        seg_scan-fits join unit (take n (drop head xs)) lengths (sym total ∙ sym cut)
        ∙ ap (λ k. Ok (scans_of join unit lengths (take k (drop head xs)))) total ∙ ap Ok front-scans

    -- the three scans, one behind the other, are the part's
    pub put_together : (front whole behind : List Item) → front ≡ scan_of join before (take head xs) → whole ≡ scans_of join unit lengths (drop head xs)
        → behind ≡ scan_of join unit (drop n (drop head xs)) → part_scan_of join unit before head lengths xs ≡ Ok (front ++ (whole ++ behind))
    put_together front whole behind is_front is_whole is_behind =
        let from : drop n (drop head xs) ≡ drop (head + sum lengths) xs = drop-drop n head xs ∙ ap (λ k. drop k xs) (omega (arith, total)) in
        part-fits enough
        ∙ ap Ok (sym ((λ i. is_front i ++ (is_whole i ++ (is_behind ∙ ap (scan_of join unit) from) i))
        ∙ sym (append_assoc (scan_of join before (take head xs)) (scans_of join unit lengths (drop head xs)) (scan_of join unit (drop (head + sum lengths) xs)))))

module _ {X : Type 0} (meaning : Result (List X) Fault) (answer : Result (Unit {0}) Fault) where
  -- a call with a value has written it
  pub written : (xs before now : List X) → meaning ≡ Ok xs → Overwrites meaning answer before now → (answer ≡ Ok tt) × (now ≡ xs)
  written xs before now is did =
      elim answer as (λ r. Overwrites meaning r before now → (r ≡ Ok tt) × (now ≡ xs)) [
        | Ok done ↦ (λ d. (refl, same_Some now xs (ap result_ok (sym d ∙ is))))
        | Err f ↦ (λ d. absurd (none-some xs (ap result_ok (sym d.0 ∙ is))))
      ] did

  -- one that has written it gives it
  pub writes : (before now : List X) → meaning ≡ Ok now → answer ≡ Ok tt → Overwrites meaning answer before now
  writes before now is done = subst (λ r. Overwrites meaning r before now) (sym done) is

-- the same of a call whose value is as long as its room
pub fills : {X : Type 0} (xs room now : List X) (answer : Result (Unit {0}) Fault) → length xs ≡ length room → Overwrites (in_room (length room) (Ok xs)) answer room now
    → (answer ≡ Ok tt) × (now ≡ xs)
fills xs room now answer long did = written (in_room (length room) (Ok xs)) answer xs room now (fits (length room) xs long) did

-- the same of the segmented scan of a part's whole segments
pub fills_whole : {Item : Type 0} (join : Item → Item → Item) (unit before : Item) (head : ℕ) (lengths : List ℕ) (xs : List Item) → head + sum lengths ≤ length xs
    → (n : ℕ) → n ≡ sum lengths → (whole : List Item) → whole ≡ take n (drop head xs) → (room now : List Item) (answer : Result (Unit {0}) Fault) → length room ≡ sum lengths
    → Overwrites (in_room (length room) (seg_scan_of join unit whole lengths)) answer room now → (answer ≡ Ok tt) × (now ≡ scans_of join unit lengths (drop head xs))
fills_whole join unit before head lengths xs enough n total whole is_whole room now answer long did =
    let scans = scans_of join unit lengths (drop head xs) in
    let is : seg_scan_of join unit whole lengths ≡ Ok scans = ap (λ ys. seg_scan_of join unit ys lengths) is_whole ∙ whole-scans join unit before head lengths xs enough n total in
    let fit : length scans ≡ length room = length-whole_scans join unit before head lengths xs enough ∙ sym long in
    written (in_room (length room) (seg_scan_of join unit whole lengths)) answer scans room now (ap (in_room (length room)) is ∙ fits (length room) scans fit) did
