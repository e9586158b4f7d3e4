-- Where tiles start, by their numbers.
use Rattle.std.proofs.Common.{◌≡◌, ℕ, ◌+◌, ◌*◌, ◌<◌, ◌≤◌, suc, min, arith}
use Rattle.std.proofs.lemmas.Grind.{div_ceil_times}
use Rattle.std.proofs.Math.Nat.{mul-le-mul_right}
use Rattle.tile_plan.specs.Ranges.{tile_count, length_of}

-- each tile starts at a place of the list
pub starts_within : (len tile t : ℕ) → 1 ≤ tile → t < tile_count len tile → t * tile < len
starts_within len tile t some below =
    let up = div_ceil_times len tile some in
    let next : t + 1 ≤ tile_count len tile = omega arith in
    let le : (t + 1) * tile ≤ tile_count len tile * tile = mul-le-mul_right tile next in
    omega arith

-- no tile is left where the tiles before it fill the list
pub starts_past : (len tile : ℕ) → 1 ≤ tile → len ≤ tile_count len tile * tile
starts_past len tile some = (div_ceil_times len tile some).0

-- a tile ends where the next one starts, or where the list ends
pub ends_at : (len tile t : ℕ) → 1 ≤ tile → t < tile_count len tile → min len (t * tile) + length_of len tile t ≡ min len (suc t * tile)
ends_at len tile t some below =
    let within = starts_within len tile t some below in
    let same : suc t * tile ≡ (t + 1) * tile = omega arith in
    omega arith
