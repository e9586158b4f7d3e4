-- The front of a list that a plan cuts into tiles, up to the end of a tile.
-- Source: what the definitions of Ranges imply.
use Rattle.std.proofs.Common.{◌≡◌, sym, ap, ◌∙◌, ℕ, zero, suc, ◌+◌, ◌*◌, ◌<◌, ◌≤◌, List, [], ◌++◌, length, take, drop, get_or, min, arith, length-append}
use Rattle.std.proofs.lemmas.List.{take-append-drop}
use Rattle.std.proofs.lemmas.List.Concat.{flat_map-append}
use Rattle.std.proofs.Math.Seq.{take-append_seam}
use Rattle.cvl_base.specs.Lists.{joined}
use Rattle.tile_plan.specs.Ranges.{tile_count, range_of, IsCutBy}
use Rattle.tile_plan.proofs.Fronts.{next_of_front}
use Rattle.tile_plan.proofs.Numbers.{ends_at}

-- the tiles before tile t are as long as the places before it
pub length_before : {Element : Type 0} (len tile : ℕ) (xs : List Element) (tiles : List (List Element)) → 1 ≤ tile → IsCutBy len tile xs tiles → (t : ℕ) → t ≤ tile_count len tile
    → length (joined (take t tiles)) ≡ min len (t * tile)
length_before len tile xs tiles some cut zero within = omega arith
length_before len tile xs tiles some cut (suc t) within =
    let next : suc t ≡ t + 1 = omega arith in
    let more = next_of_front (λ ys. ys) tiles t [] (omega (arith, cut.as_many)) in
    let parts = ap (λ n. length (joined (take n tiles))) next ∙ ap length more ∙ length-append (joined (take t tiles)) (get_or tiles t []) in
    omega (arith, parts, length_before len tile xs tiles some cut t (omega arith), cut.as_long t (omega arith), ends_at len tile t some (omega arith))

-- the tiles up to tile t are the list's front that ends where tile t does
pub front_is : {Element : Type 0} (len tile : ℕ) (xs : List Element) (tiles : List (List Element)) → 1 ≤ tile → IsCutBy len tile xs tiles → (t : ℕ) → t < tile_count len tile
    → joined (take (t + 1) tiles) ≡ take (range_of len tile t).1 xs
front_is len tile xs tiles some cut t below =
    let front = joined (take (t + 1) tiles) in
    let rest = joined (drop (t + 1) tiles) in
    let long : length front ≡ (range_of len tile t).1 = length_before len tile xs tiles some cut (t + 1) (omega arith) in
    let whole : front ++ rest ≡ xs = sym (flat_map-append (λ ys. ys) (take (t + 1) tiles) (drop (t + 1) tiles)) ∙ ap joined (take-append-drop (t + 1) tiles) ∙ cut.whole in
    sym (take-append_seam front rest) ∙ ap (λ n. take n (front ++ rest)) long ∙ ap (take (range_of len tile t).1) whole
