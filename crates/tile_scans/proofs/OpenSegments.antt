-- Which segments are open at a place of a segmented vector, and what stands before the place then.
use Rattle.tile_scans.proofs.Cited.{◌≡◌, ℕ, ◌+◌, ◌<◌, ◌≤◌, Bool, List, length, take, slice_range, ap, ◌∙◌, arith, AllPass, fold_of, MonoidLaws, seg_unit, seg_join, with_starts, IsOpenAt}
use Rattle.tile_scans.proofs.Cited.{started_range_summed}
use Rattle.segdes.specs.Starts.{start_of}
use Rattle.tile_scans.proofs.RangeScans.{with_starts-take}

module _ {Item : Type 0} {is_item : Item → Bool} {unit : Item} {join : Item → Item → Item} (laws : MonoidLaws is_item unit join) (lengths : List ℕ) (xs : List Item) (items : AllPass is_item xs) where
  -- what stands before a place inside of segment s, or at its end, is what the segment's elements before the place join to
  pub since_start : (place s : ℕ) → place ≤ length xs → s < length lengths → start_of lengths s < place → place ≤ start_of lengths (s + 1)
      → (fold_of (seg_join join) (seg_unit unit) (take place (with_starts lengths xs))).1 ≡ fold_of join unit (slice_range xs (start_of lengths s) place)
  since_start place s within lt begins ends =
      ap (λ range. (fold_of (seg_join join) (seg_unit unit) range).1) (with_starts-take lengths xs place)
      ∙ ap (λ w. w.1) (started_range_summed laws lengths xs (seg_unit unit) 0 place s within lt (omega arith) begins ends items)

  -- so the segment is open there
  pub is_open : (place s : ℕ) (before : Item) → place ≤ length xs → s < length lengths → start_of lengths s < place → place ≤ start_of lengths (s + 1)
      → before ≡ (fold_of (seg_join join) (seg_unit unit) (take place (with_starts lengths xs))).1 → IsOpenAt join unit lengths xs s place before
  is_open place s before within lt begins ends is = record {
    begun = omega (arith, begins);
    not_past = ends;
    before_is = is ∙ since_start place s within lt begins ends;
  }
