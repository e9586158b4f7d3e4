-- What each tile of a list sums up to, and what stands before a tile and before a place of it.
use Rattle.tile_scans.proofs.Cited.{if◌then◌else◌, ◌≡◌, ℕ, zero, suc, ◌+◌, ◌-◌, ◌*◌, ◌<◌, ◌≤◌, min, Bool, false, true, IsTrue, List, [], ◌∷◌, ◌++◌, length, map, take, get_or, slice_range, refl, sym}
use Rattle.tile_scans.proofs.Cited.{ap, ◌∙◌, arith, take-add, AllPass, range_with_len, All-from_get_or, All-map, All-take, All-drop, fill_by_all, get_or-map-range_with_len}
use Rattle.tile_scans.proofs.Cited.{length-map-range_with_len, fold-append, fold_more, fold_of_is_item, fold_of-append, either, fold_of, most_elements, MonoidLaws, is_seg_item, seg_unit, seg_join}
use Rattle.tile_scans.proofs.Cited.{before_tile, tile_count, range_of, Tiling}
use Rattle.operators.specs.SegmentMonoidLaws.{seg_laws}
use Rattle.tile_plan.proofs.Numbers.{starts_within}
use Rattle.tile_scans.specs.TiledSums.{tile_of, sums_of}
use Rattle.tile_scans.specs.Written.{befores_of}

-- the elements of a vector in tiles, each with whether a segment starts at it
pub record IsTiled {Item : Type 0} (is_item : Item → Bool) (plan : Tiling) (ws : List (Bool × Item)) : Type 0 where
  pub some : 1 ≤ plan.tile
  pub few : plan.len ≤ most_elements
  pub whole : length ws ≡ plan.len
  pub items : AllPass (is_seg_item is_item) ws

-- the elements up to tile t are those before it, and its own
pub tiles_more : {X : Type 0} (plan : Tiling) (t : ℕ) (xs : List X) → 1 ≤ plan.tile → t < tile_count plan.len plan.tile
    → take (min plan.len ((t + 1) * plan.tile)) xs ≡ take (min plan.len (t * plan.tile)) xs ++ tile_of plan.len plan.tile xs t
tiles_more plan t xs some below =
    let from : ℕ = t * plan.tile in
    let to : ℕ = min plan.len ((t + 1) * plan.tile) in
    let within = starts_within plan.len plan.tile t some below in
    let starts : min plan.len from ≡ from = omega (arith, within) in
    let rises : from + (to - from) ≡ to = omega (arith, within) in
    ap (λ k. take k xs) (sym rises) ∙ take-add from (to - from) xs ∙ ap (λ k. take k xs ++ tile_of plan.len plan.tile xs t) (sym starts)

-- the sums of the tiles
module _ {Item : Type 0} (join : Item → Item → Item) (unit : Item) (len tile : ℕ) (ws : List (Bool × Item)) where
  pub length-sums_of : length (sums_of join unit len tile ws) ≡ tile_count len tile
  length-sums_of = length-map-range_with_len (λ t. fold_of (seg_join join) (seg_unit unit) (tile_of len tile ws t)) 0 (tile_count len tile)

  pub sum_at : (t : ℕ) → t < tile_count len tile → get_or (sums_of join unit len tile ws) t (seg_unit unit) ≡ fold_of (seg_join join) (seg_unit unit) (tile_of len tile ws t)
  sum_at t below = get_or-map-range_with_len (λ k. fold_of (seg_join join) (seg_unit unit) (tile_of len tile ws k)) 0 (tile_count len tile) t t (seg_unit unit) below (omega arith)

-- whether a segment started before changes nothing of the value since the last start
unflagged : {Item : Type 0} (join : Item → Item → Item) (f h : Bool) (v : Item) (ws : List (Bool × Item))
    → (fold_of (seg_join join) (f, v) ws).1 ≡ (fold_of (seg_join join) (h, v) ws).1
unflagged join f h v [] = refl
unflagged join f h v ((starts, x) ∷ ws) = unflagged join (either f starts) (either h starts) (if starts then x else join v x) ws

-- what stands before a place, since the last start
abbrev pub stands_before : {Item : Type 0} → (Item → Item → Item) → Item → List (Bool × Item) → ℕ → Item
stands_before join unit ws p = (fold_of (seg_join join) (seg_unit unit) (take p ws)).1

module _ {Item : Type 0} {is_item : Item → Bool} {plan : Tiling} {ws : List (Bool × Item)} (is : IsTiled is_item plan ws) where
  pub front_passes : (p : ℕ) → AllPass (is_seg_item is_item) (take p ws)
  front_passes p = All-take (λ w. is_seg_item is_item w ≡ true) p ws is.items

  pub tile_passes : (t : ℕ) → AllPass (is_seg_item is_item) (tile_of plan.len plan.tile ws t)
  tile_passes t =
      All-take (λ w. is_seg_item is_item w ≡ true) ((range_of plan.len plan.tile t).1 - (range_of plan.len plan.tile t).0) _
      (All-drop (λ w. is_seg_item is_item w ≡ true) (range_of plan.len plan.tile t).0 ws is.items)

module _ {Item : Type 0} {is_item : Item → Bool} {unit : Item} {join : Item → Item → Item} (laws : MonoidLaws is_item unit join)
    {plan : Tiling} {ws : List (Bool × Item)} (is : IsTiled is_item plan ws) where
  pub front_is_item : (p : ℕ) → IsTrue (is_item (stands_before join unit ws p))
  front_is_item p = fold_of_is_item (seg_laws laws) (take p ws) (front_passes is p)

  -- the sums of tiles are items
  sum_is_item : (t : ℕ) → IsTrue (is_seg_item is_item (fold_of (seg_join join) (seg_unit unit) (tile_of plan.len plan.tile ws t)))
  sum_is_item t = fold_of_is_item (seg_laws laws) (tile_of plan.len plan.tile ws t) (tile_passes is t)

  pub sums_pass : AllPass (is_seg_item is_item) (sums_of join unit plan.len plan.tile ws)
  sums_pass =
      All-map (λ w. is_seg_item is_item w ≡ true) (λ t. fold_of (seg_join join) (seg_unit unit) (tile_of plan.len plan.tile ws t)) (range_with_len 0 (tile_count plan.len plan.tile))
      (All-from_get_or (λ t. is_seg_item is_item (fold_of (seg_join join) (seg_unit unit) (tile_of plan.len plan.tile ws t)) ≡ true) (range_with_len 0 (tile_count plan.len plan.tile)) 0
      (λ i below. sum_is_item _))

  -- what the tiles before tile t join to is what their elements join to
  sums_before : (t : ℕ) → t ≤ tile_count plan.len plan.tile
      → fold_of (seg_join join) (seg_unit unit) (take t (sums_of join unit plan.len plan.tile ws)) ≡ fold_of (seg_join join) (seg_unit unit) (take (min plan.len (t * plan.tile)) ws)
  sums_before zero within = let none : 0 ≡ min plan.len (0 * plan.tile) = omega arith in ap (λ k. fold_of (seg_join join) (seg_unit unit) (take k ws)) none
  sums_before (suc t) within =
      let next : suc t ≡ t + 1 = omega arith in
      let below : t < tile_count plan.len plan.tile = omega arith in
      let sums = sums_of join unit plan.len plan.tile ws in
      ap (λ k. fold_of (seg_join join) (seg_unit unit) (take k sums)) next
      ∙ fold_more (seg_join join) (seg_unit unit) sums t (seg_unit unit) (omega (arith, length-sums_of join unit plan.len plan.tile ws, below))
      ∙ (λ i. seg_join join (sums_before t (omega arith) i) (sum_at join unit plan.len plan.tile ws t below i))
      ∙ sym (fold_of-append (seg_laws laws) (take (min plan.len (t * plan.tile)) ws) (tile_of plan.len plan.tile ws t) (front_passes is (min plan.len (t * plan.tile))) (tile_passes is t))
      ∙ ap (fold_of (seg_join join) (seg_unit unit)) (sym (tiles_more plan t ws is.some below))
      ∙ ap (λ k. fold_of (seg_join join) (seg_unit unit) (take (min plan.len (k * plan.tile)) ws)) (sym next)

  -- what stands before each tile is what the elements before it join to
  pub befores_are : befores_of join unit (sums_of join unit plan.len plan.tile ws)
      ≡ map (λ t. stands_before join unit ws (range_of plan.len plan.tile t).0) (range_with_len 0 (tile_count plan.len plan.tile))
  befores_are =
      let sums = sums_of join unit plan.len plan.tile ws in
      let long = length-sums_of join unit plan.len plan.tile ws in
      fill_by_all (λ t. stands_before join unit ws (range_of plan.len plan.tile t).0) (befores_of join unit sums) (tile_count plan.len plan.tile) unit
      (length-map-range_with_len (λ t. (before_tile join unit sums t).1) 0 (length sums) ∙ long)
      (λ t below.
      let start : min plan.len (t * plan.tile) ≡ (range_of plan.len plan.tile t).0 = omega (arith, starts_within plan.len plan.tile t is.some below) in
      get_or-map-range_with_len (λ k. (before_tile join unit sums k).1) 0 (length sums) t t unit (omega (arith, below, long)) (omega arith)
      ∙ ap (λ w. w.1) (sums_before t (omega (arith, below)))
      ∙ ap (stands_before join unit ws) start)

  module _ (known : List Item) (known_is : known ≡ befores_of join unit (sums_of join unit plan.len plan.tile ws)) where
    pub length-known : length known ≡ tile_count plan.len plan.tile
    length-known = ap length (known_is ∙ befores_are) ∙ length-map-range_with_len (λ t. stands_before join unit ws (range_of plan.len plan.tile t).0) 0 (tile_count plan.len plan.tile)

    pub known_at : (t : ℕ) (d : Item) → t < tile_count plan.len plan.tile → get_or known t d ≡ stands_before join unit ws (range_of plan.len plan.tile t).0
    known_at t d below =
        ap (λ ks. get_or ks t d) (known_is ∙ befores_are)
        ∙ get_or-map-range_with_len (λ k. stands_before join unit ws (range_of plan.len plan.tile k).0) 0 (tile_count plan.len plan.tile) t t d below (omega arith)

    -- so from there on it is known what stands before a place of tile t
    pub since_known : (t p : ℕ) (d : Item) → t < tile_count plan.len plan.tile → (range_of plan.len plan.tile t).0 ≤ p
        → (fold_of (seg_join join) (false, get_or known t d) (slice_range ws (range_of plan.len plan.tile t).0 p)).1 ≡ stands_before join unit ws p
    since_known t p d below begun =
        let from : ℕ = (range_of plan.len plan.tile t).0 in
        let end : from + (p - from) ≡ p = omega (arith, begun) in
        let sum : Bool × Item = fold_of (seg_join join) (seg_unit unit) (take from ws) in
        ap (λ b. (fold_of (seg_join join) (false, b) (slice_range ws from p)).1) (known_at t d below)
        ∙ unflagged join false sum.0 sum.1 (slice_range ws from p)
        ∙ ap (λ w. w.1) (sym (fold-append (seg_join join) (seg_unit unit) (take from ws) (slice_range ws from p)))
        ∙ ap (λ zs. (fold_of (seg_join join) (seg_unit unit) zs).1) (sym (take-add from (p - from) ws))
        ∙ ap (stands_before join unit ws) end
