-- How a segmented vector is cut into pieces, at any places: a segment may begin in one piece and go on in others.
-- Source: Blelloch, Vector Models for Data-Parallel Computing, 1990, segmented scans; how segments are cut is this library's.
use Rattle.std.specs.Prelude.{◌≡◌, ◌+◌, ◌<◌, ◌≤◌, ℕ, Bool, true, false, if◌then◌else◌, List, [], ◌∷◌, ◌++◌, drop, length, map, sum, take}
use Rattle.std.specs.Prelude.{Ok, Some, slice_get}
use Rattle.std.specs.List.{All}
use Rattle.call_laws.specs.OverRanks.{together}
use Rattle.cvl_base.specs.Lists.{joined}
use Rattle.cvl_base.specs.Nests.{cut_of, nest}

-- a piece's elements; how many of them, its head, go on from a segment that began before the piece; the lengths of the whole segments
-- behind its head; and whether a segment starts in the piece
pub record Piece (X : Type 0) : Type 0 where
  pub elements : List X
  pub head : ℕ
  pub lengths : List ℕ
  pub starts : Bool

module _ {X : Type 0} where
  -- its tail, the elements behind its whole segments, with which another segment begins
  abbrev pub tail_of : Piece X → List X
  tail_of p = drop (p.head + sum p.lengths) p.elements

  -- its elements since the last start of a segment, or all of them if none starts
  abbrev pub since_start : Piece X → List X
  since_start p = if p.starts then tail_of p else p.elements

  -- a segment, if it has elements
  abbrev pub if_some : List X → List (List X)
  if_some [] = []
  if_some (x ∷ xs) = (x ∷ xs) ∷ []

  -- its head, and the segments that start in it
  abbrev pub segments_in : Piece X → List X × List (List X)
  segments_in p = (take p.head p.elements, cut_of p.lengths (drop p.head p.elements) ++ if_some (tail_of p))

  -- a piece has elements, as many as its head and its whole segments at least; if no segment starts in it, all of them are its head
  pub record IsPiece (p : Piece X) : Type 0 where
    pub some : 0 < length p.elements
    pub fits : p.head + sum p.lengths ≤ length p.elements
    pub all_head : p.starts ≡ false → (p.head ≡ length p.elements) × (p.lengths ≡ [])

  -- if a piece ends with a whole segment, the next one has no head
  abbrev pub MayPrecede : Piece X → Piece X → Type 0
  MayPrecede p next = p.starts ≡ true → tail_of p ≡ [] → next.head ≡ 0

  -- pieces into which a vector is cut whose segments have these lengths: the lengths cut the elements of all pieces into the segments that
  -- the pieces have together, and no segment began before the first piece
  pub record AreCut (lengths : List ℕ) (pieces : List (Piece X)) : Type 0 where
    pub each : All IsPiece pieces
    pub next : (k : ℕ) (p q : Piece X) → slice_get pieces k ≡ Some p → slice_get pieces (k + 1) ≡ Some q → MayPrecede p q
    pub whole : (segments : List (List X)) × (nest lengths (joined (map (λ p. p.elements) pieces)) ≡ Ok segments)
        × (together (map segments_in pieces) ≡ ([], segments))
