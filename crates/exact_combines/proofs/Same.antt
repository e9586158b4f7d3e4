-- Combining permutes by the sum in 64 bits are those over whole numbers, if what stands in the room may grow.
use Rattle.std.proofs.Common.{◌≡◌, ◌+◌, ◌≤◌, refl, ap, arith, ℕ, Bool, true, false, not, List, [], ◌∷◌, length, take, drop, zip}
use Rattle.std.proofs.Common.{ℤ, ◌+ℤ◌, IsTrue, Ok, Err, Result, filter, sum, ◌==◌}
use Rattle.std.specs.List.{AllPass}
use Rattle.std.proofs.lemmas.List.{length-drop, length-map, length-take}
use Rattle.std.proofs.lemmas.List.Elements.{All-cons, All-drop, All-filter, All-head, All-map, All-nil, All-tail, All-take}
use Rattle.std.proofs.lemmas.List.Sums.{count_by-le-length, length-filter}
use Rattle.cvl_base.specs.declared.fault.Fault.{Fault}
use Rattle.cvl_base.specs.declared.fault.FaultNo.TheVariants.{LengthMismatch}
use Rattle.cvl_base.specs.Faults.{fault}
use Rattle.cvl_base.specs.Elementwise.{if_as_long}
use Rattle.cvl_base.specs.Gives.{◌>>=◌, fault_if, unless}
use Rattle.cvl_base.specs.ItemWords.{is_number}
use Rattle.cvl_base.specs.Limits.{most_places}
use Rattle.cvl_base.specs.Lists.{joined}
use Rattle.cvl_base.specs.Nests.{cut_of, nest}
use Rattle.cvl_base.specs.Segmented.{beside, end_to_end, in_vector, moved, of_three, results_from}
use Rattle.permute_walks.specs.Indices.{first_outside}
use Rattle.combining_permutes.specs.CombiningPermutes.{combine_of, combined, names, seg_combine_of, sent_there}
use Rattle.long_sums.specs.LongFolds.{fold_same}
use Rattle.long_sums.specs.LongSums.{long_sum_of, may_grow}

-- ---- one room

few_sent : (sends : List (ℤ × ℤ)) (d : ℕ) → length (sent_there sends d) ≤ length sends
few_sent sends d =
    let own = λ (p : ℤ × ℤ). names d p.0 in
    omega (arith, length-map (filter own sends) (λ p. p.1), length-filter own sends, count_by-le-length own sends)

sent_numbers : (sends : List (ℤ × ℤ)) (d : ℕ) → AllPass (λ p. is_number p.1) sends → AllPass is_number (sent_there sends d)
sent_numbers sends d numbers =
    All-map (λ x. IsTrue (is_number x)) (λ p. p.1) (filter (λ p. names d p.0) sends) (All-filter (λ p. names d p.0) (λ p. IsTrue (is_number p.1)) sends numbers)

combined_same : (sends : List (ℤ × ℤ)) (lowest : ℕ) (before : List ℤ) → length sends ≤ most_places → AllPass (λ p. is_number p.1) sends → AllPass may_grow before
    → combined long_sum_of sends lowest before ≡ combined ◌+ℤ◌ sends lowest before
combined_same sends lowest [] few numbers grow = refl
combined_same sends lowest (y ∷ before) few numbers grow =
    let here = fold_same y (sent_there sends lowest) (All-head (λ z. IsTrue (may_grow z)) y before grow) (omega (arith, few, few_sent sends lowest)) (sent_numbers sends lowest numbers) in
    let others = combined_same sends (lowest + 1) before few numbers (All-tail (λ z. IsTrue (may_grow z)) y before grow) in
    (λ t. here t ∷ others t)

pub zip_items : {X : Type 0} (is_item : X → Bool) (index : List ℤ) (source : List X) → AllPass is_item source → AllPass (λ p. is_item p.1) (zip index source)
zip_items is_item [] source items = All-nil (λ p. IsTrue (is_item p.1))
zip_items is_item (i ∷ index) [] items = All-nil (λ p. IsTrue (is_item p.1))
zip_items is_item (i ∷ index) (x ∷ source) items =
    All-cons (λ p. IsTrue (is_item p.1)) (i, x) (zip index source) (All-head (λ z. IsTrue (is_item z)) x source items)
    (zip_items is_item index source (All-tail (λ z. IsTrue (is_item z)) x source items))

few_pairs : (index source : List ℤ) → length (zip index source) ≤ length index
few_pairs [] source = omega arith
few_pairs (i ∷ index) [] = omega arith
few_pairs (i ∷ index) (x ∷ source) = omega (arith, few_pairs index source)

pub pairs_same : (source index : List ℤ) (lowest : ℕ) (before : List ℤ) → length index ≤ most_places → AllPass is_number source → AllPass may_grow before
    → combined long_sum_of (zip index source) lowest before ≡ combined ◌+ℤ◌ (zip index source) lowest before
pairs_same source index lowest before few numbers grow =
    combined_same (zip index source) lowest before (omega (arith, few, few_pairs index source)) (zip_items is_number index source numbers) grow

pub combine_same : (source index before : List ℤ) → length index ≤ most_places → AllPass is_number source → AllPass may_grow before
    → combine_of long_sum_of source index before ≡ combine_of ◌+ℤ◌ source index before
combine_same source index before few numbers grow =
    ap (λ room. if_as_long source index (unless (first_outside 0 (length before) index) (Ok room))) (pairs_same source index 0 before few numbers grow)

-- ---- each segment

few_taken : {X : Type 0} (n : ℕ) (xs : List X) → length (take n xs) ≤ length xs
few_taken n xs = omega (arith, length-take n xs)

few_dropped : {X : Type 0} (n : ℕ) (xs : List X) → length (drop n xs) ≤ length xs
few_dropped n xs = omega (arith, length-drop n xs)

abbrev cut : List ℕ → List ℕ → List ℤ → List ℤ → List ℤ → List ((List ℤ × List ℤ) × List ℤ)
cut lengths ms source index before = zip (zip (cut_of lengths source) (cut_of lengths index)) (cut_of ms before)

results_same : (lengths : List ℕ) (s : ℕ) (left ms : List ℕ) (source index before : List ℤ) → length index ≤ most_places → AllPass is_number source → AllPass may_grow before
    → results_from (in_vector lengths) (of_three (combine_of long_sum_of)) s (cut left ms source index before)
    ≡ results_from (in_vector lengths) (of_three (combine_of ◌+ℤ◌)) s (cut left ms source index before)
results_same lengths s [] ms source index before few numbers grow = refl
results_same lengths s (n ∷ ns) [] source index before few numbers grow = refl
results_same lengths s (n ∷ ns) (m ∷ ms) source index before few numbers grow =
    let here = combine_same (take n source) (take n index) (take m before) (omega (arith, few, few_taken n index)) (All-take (λ z. IsTrue (is_number z)) n source numbers)
    (All-take (λ z. IsTrue (may_grow z)) m before grow) in
    let others = results_same lengths (s + 1) ns ms (drop n source) (drop n index) (drop m before) (omega (arith, few, few_dropped n index))
    (All-drop (λ z. IsTrue (is_number z)) n source numbers) (All-drop (λ z. IsTrue (may_grow z)) m before grow) in
    (λ t. moved (in_vector lengths s) (here t) >>= λ r. others t >>= λ rs. Ok (r ∷ rs))

-- two calls that answer alike behind a test
behind : {X Y : Type 0} (call other : Result X Fault → Result Y Fault) (b : Bool) (f : Fault) (rest : Result X Fault) → call (Err f) ≡ other (Err f) → call rest ≡ other rest
    → call (fault_if b f rest) ≡ other (fault_if b f rest)
behind call other true f rest faulty right = faulty
behind call other false f rest faulty right = right

module _ (source index before : List ℤ) (lengths ms : List ℕ) (few : length index ≤ most_places) (numbers : AllPass is_number source) (grow : AllPass may_grow before) where
  abbrev by : (ℤ → ℤ → ℤ) → Result (List ((List ℤ × List ℤ) × List ℤ)) Fault → Result (List ℤ) Fault
  by join segments = end_to_end (in_vector lengths) (of_three (combine_of join)) segments

  abbrev sources : List (List ℤ)
  sources = cut_of lengths source

  abbrev indices : List (List ℤ)
  indices = cut_of lengths index

  abbrev rooms : List (List ℤ)
  rooms = cut_of ms before

  segments_same : by long_sum_of (Ok (zip (zip sources indices) rooms)) ≡ by ◌+ℤ◌ (Ok (zip (zip sources indices) rooms))
  segments_same = ap (λ results. results >>= λ lists. Ok (joined lists)) (results_same lengths 0 lengths ms source index before few numbers grow)

  pub seg_combine_same : seg_combine_of long_sum_of source index lengths ms before ≡ seg_combine_of ◌+ℤ◌ source index lengths ms before
  seg_combine_same =
      behind (λ s. by long_sum_of (beside (beside s (nest lengths index)) (nest ms before))) (λ s. by ◌+ℤ◌ (beside (beside s (nest lengths index)) (nest ms before)))
      (not (sum lengths == length source)) (fault LengthMismatch) (Ok sources) refl
      (behind (λ s. by long_sum_of (beside (beside (Ok sources) s) (nest ms before))) (λ s. by ◌+ℤ◌ (beside (beside (Ok sources) s) (nest ms before)))
      (not (sum lengths == length index)) (fault LengthMismatch) (Ok indices) refl
      (behind (λ s. by long_sum_of (beside s (nest ms before))) (λ s. by ◌+ℤ◌ (beside s (nest ms before)))
      (not (length sources == length indices)) (fault LengthMismatch) (Ok (zip sources indices)) refl
      (behind (λ s. by long_sum_of (beside (Ok (zip sources indices)) s)) (λ s. by ◌+ℤ◌ (beside (Ok (zip sources indices)) s))
      (not (sum ms == length before)) (fault LengthMismatch) (Ok rooms) refl
      (behind (by long_sum_of) (by ◌+ℤ◌)
      (not (length (zip sources indices) == length rooms)) (fault LengthMismatch) (Ok (zip (zip sources indices) rooms)) refl segments_same))))
