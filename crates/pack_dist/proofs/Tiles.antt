-- Flags in tiles: how many are true before each tile, and where what is kept of some of them is put.
-- Source: what the definitions of Kept imply.
use Rattle.pack_dist.proofs.Cited.{◌≡◌, ◌∙◌, ℕ, ◌+◌, ◌-◌, ◌*◌, ◌<◌, ◌≤◌, min, ℤ, pos, to_z, of_z, w32, w64, Fits, T, nat_abs, Bool, cond, List, length, get_or, take, drop, sym, subst, ap}
use Rattle.pack_dist.proofs.Cited.{arith, fits_signed_from_abs, ints, to_z-of_z, take-take, take_all, take_min, get_or-map-range_with_len, length-map-range_with_len, count_by-le-length}
use Rattle.pack_dist.proofs.Cited.{sum_by-take-le, most_elements, count_of, tile_count}
use Rattle.std.specs.Int.Signed.{non_neg}
use Rattle.std.proofs.Math.Nat.{mul-le-mul_right}
use Rattle.tile_plan.proofs.Numbers.{starts_past}
use Rattle.pack_dist.specs.Kept.{ArePlacesOf, count_before, counts_before}
use Rattle.pack_dist.proofs.Packing.{count-split, length-kept}

-- before a later place no fewer flags are true
counts_rise : (flags : List Bool) (i j : ℕ) → i ≤ j → count_of (take i flags) ≤ count_of (take j flags)
counts_rise flags i j le = omega (arith, sum_by-take-le (λ (f : Bool). cond f 1 0) (take j flags) i, ap count_of (take-take i j flags le))

tiles_rise : (flags : List Bool) (tile s t : ℕ) → s ≤ t → count_before flags tile s ≤ count_before flags tile t
tiles_rise flags tile s t le = counts_rise flags (s * tile) (t * tile) (mul-le-mul_right tile le)

-- where a tile starts, as far as there are elements
pub count_at_start : (flags : List Bool) (tile t : ℕ) → count_of (take (min (t * tile) (length flags)) flags) ≡ count_before flags tile t
count_at_start flags tile t = ap count_of (take_min (t * tile) flags)

pub starts_rise : (tile n s t : ℕ) → s ≤ t → min (s * tile) n ≤ min (t * tile) n
starts_rise tile n s t le = omega (arith, mul-le-mul_right tile le)

module _ (flags : List Bool) (tile : ℕ) (some : 1 ≤ tile) where
  -- before no tile but all of them
  count_before_all : count_before flags tile (tile_count (length flags) tile) ≡ count_of flags
  count_before_all = ap count_of (take_all (tile_count (length flags) tile * tile) flags (starts_past (length flags) tile some))

  -- all tiles
  pub whole_placed : {X : Type 0} (xs : List X) (tiles count : ℕ) → length xs ≡ length flags → tiles ≡ tile_count (length flags) tile → count ≡ count_of flags
      → ArePlacesOf xs flags tile 0 tiles 0 count
  whole_placed xs tiles count long all is =
      let none : 0 * tile ≡ 0 = omega arith in
      record {
        begin = sym (ap (λ k. count_of (take k flags)) none);
        end = omega (arith, is, count_before_all, ap (count_before flags tile) all);
        within = omega (arith, is, length-kept xs flags long);
      }

-- before a tile, and from where it starts on
pub count_both : (flags : List Bool) (tile t : ℕ) (others : List Bool) → others ≡ drop (min (t * tile) (length flags)) flags → count_before flags tile t + count_of others ≡ count_of flags
count_both flags tile t others are = omega (arith, count_at_start flags tile t, ap count_of are, count-split flags (min (t * tile) (length flags)))

-- tiles that are parted
module _ {X : Type 0} {xs : List X} {flags : List Bool} {tile from to first room : ℕ} (are : ArePlacesOf xs flags tile from to first room) (middle : ℕ) where
  pub before_middle : from ≤ middle → first ≤ count_before flags tile middle
  before_middle le = omega (arith, are.begin, tiles_rise flags tile from middle le)

  -- how many places the front has, by what is counted before the middle, or all
  pub counted_places : (places counted : ℕ) → from ≤ middle → places ≡ counted - first → counted ≡ count_before flags tile middle → first + places ≡ count_before flags tile middle
  counted_places places counted le is count = omega (arith, is, count, before_middle le)

  pub all_places : (places : ℕ) → middle ≤ to → to ≤ middle → places ≡ room → first + places ≡ count_before flags tile middle
  all_places places le ge is = let same : to ≡ middle = omega arith in omega (arith, is, are.end, ap (count_before flags tile) same)

  module _ (places : ℕ) (le : middle ≤ to) (at : first + places ≡ count_before flags tile middle) where
    pub places_within : places ≤ room
    places_within = omega (arith, at, are.end, tiles_rise flags tile middle to le)

    pub front_placed : ArePlacesOf xs flags tile from middle first places
    front_placed = record { begin = are.begin; end = at; within = omega (arith, places_within, are.within) }

    pub back_placed : ArePlacesOf xs flags tile middle to (first + places) (room - places)
    back_placed = record { begin = at; end = omega (arith, are.end, places_within); within = omega (arith, are.within, places_within) }

-- a count as it is read from 32 bits
module _ (flags : List Bool) (few : length flags ≤ most_elements) (tile t : ℕ) where
  small : count_before flags tile t ≤ most_elements
  small = omega (arith, few, sum_by-take-le (λ (f : Bool). cond f 1 0) flags (t * tile), count_by-le-length (λ (f : Bool). f) flags)

  pub read_count : (z : ℤ) → z ≡ pos (count_before flags tile t) → T (non_neg (to_z w32 (of_z w32 z))) × Fits w64 (nat_abs (to_z w32 (of_z w32 z)))
  read_count z is =
      let n = count_before flags tile t in
      subst (λ (y : ℤ). T (non_neg (to_z w32 (of_z w32 y))) × Fits w64 (nat_abs (to_z w32 (of_z w32 y)))) (sym is)
      (rw (to_z-of_z w32 (pos n) (fits_signed_from_abs w32 (pos n) (omega (arith, small)))) (tt, omega (arith, ints, small)))

-- the numbers that are known of all tiles
module _ (flags : List Bool) (tile : ℕ) (before : List ℤ) (known : before ≡ counts_before flags tile) where
  pub as_many : length before ≡ tile_count (length flags) tile
  as_many = ap length known ∙ length-map-range_with_len (λ t. pos (count_before flags tile t)) 0 (tile_count (length flags) tile)

  pub count_at : (t : ℕ) (d : ℤ) → t < tile_count (length flags) tile → get_or before t d ≡ pos (count_before flags tile t)
  count_at t d lt =
      ap (λ counts. get_or counts t d) known
      ∙ get_or-map-range_with_len (λ t. pos (count_before flags tile t)) 0 (tile_count (length flags) tile) t t d lt (omega arith)
