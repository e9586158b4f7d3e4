-- Flat indices: those of a segmented permute, counted from the start of the whole result instead of their segment.
-- Source: CVL's segmented vectors, whose segments lie one after another.
use Rattle.std.specs.Prelude.{ℕ, ◌+◌, ℤ, pos, negsuc, if◌then◌else◌, unsigned_abs, List, [], ◌∷◌, ◌++◌, length, map, take, drop, Option}
use Rattle.cvl_base.specs.Permutes.{is_place}

-- the flat index of an index into a segment of m places, the first of which is place `start` of the whole: -1, which is no place, if the
-- index is no place of the segment
abbrev pub flat_index : ℕ → ℕ → ℤ → ℤ
flat_index start m i = if is_place m i then pos (start + unsigned_abs i) else negsuc 0

-- those of all segments, which have an index for each of their destinations; the places of the first one begin at `start`
abbrev pub flat_indices : ℕ → List (ℕ × List (Option ℤ)) → List ℤ → List ℤ
flat_indices start [] index = []
flat_indices start (segment ∷ segments) index =
    map (flat_index start segment.0) (take (length segment.1) index)
    ++ flat_indices (start + segment.0) segments (drop (length segment.1) index)
