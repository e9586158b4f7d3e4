-- Segmented vectors whose elements lie on ranks, each of which has the part after those of the ranks before it. A segment may cross any
-- number of ranks: a rank has elements of the one that is open where its part begins, or none, and the segments that start in its part.
-- Source: Blelloch, Prefix Sums and Their Applications, 1990: processors sum up their parts and scan the sums; a segment starts where its
-- flag is true. How segments are cut at ranks is this library's.
use Rattle.std.specs.Prelude.{List, [], ◌∷◌, ◌++◌, map}
use Rattle.call_laws.specs.Carried.{each_after}
use Rattle.cvl_base.specs.Folds.{fold_of, scan_of}
use Rattle.cvl_base.specs.Lists.{joined}

-- ---- what ranks have together

-- the last of some segments continues
abbrev pub going_on : {X : Type 0} → List X → List (List X) → List X → List (List X)
going_on segment [] more = (segment ++ more) ∷ []
going_on segment (other ∷ others) more = segment ∷ going_on other others more

-- what follows a part belongs to the last segment that starts in it, or else to the one that is open where the part begins
abbrev pub followed_by : {X : Type 0} → List X → List (List X) → List X × List (List X) → List X × List (List X)
followed_by front [] behind = (front ++ behind.0, behind.1)
followed_by front (segment ∷ others) behind = (front, going_on segment others behind.0 ++ behind.1)

-- the elements of the segment that is open before the ranks, and the segments that start in them
abbrev pub together : {X : Type 0} → List (List X × List (List X)) → List X × List (List X)
together [] = ([], [])
together (part ∷ others) = followed_by part.0 part.1 (together others)

-- the elements of the ranks, in order
abbrev pub elements_of : {X : Type 0} → List (List X × List (List X)) → List X
elements_of parts = joined (map (λ part. part.0 ++ joined part.1) parts)

-- ---- scans: each rank continues from what is open before it

-- what is open after a part: the last reduce of its segments, the first of which continued
abbrev pub open_behind : {Item : Type 0} → (Item → Item → Item) → Item → Item → List (List Item) → Item
open_behind join unit before [] = before
open_behind join unit before (segment ∷ others) = open_behind join unit (fold_of join unit segment) others

-- the ranks' scans, in order
abbrev pub scans_over_ranks : {Item : Type 0} → (Item → Item → Item) → Item → Item → List (List Item × List (List Item)) → List Item
scans_over_ranks join unit before [] = []
scans_over_ranks join unit before (part ∷ others) =
    joined (each_after (scan_of join) unit before (part.0 ∷ part.1))
    ++ scans_over_ranks join unit (open_behind join unit (fold_of join before part.0) part.1) others

-- ---- reduces: each rank joins to its last segment what continues it

-- what continues from a rank's front: up to the first segment that starts
abbrev pub up_to_start : {Item : Type 0} → (Item → Item → Item) → Item → List (List Item) → Item → Item
up_to_start join front [] behind = join front behind
up_to_start join front (segment ∷ others) behind = front

-- the join of what goes on behind a rank, up to the next start of a segment
abbrev pub goes_on_behind : {Item : Type 0} → (Item → Item → Item) → Item → List (List Item × List (List Item)) → Item
goes_on_behind join unit [] = unit
goes_on_behind join unit (part ∷ others) = up_to_start join (fold_of join unit part.0) part.1 (goes_on_behind join unit others)

-- the reduces of the segments that start in a rank, the last one joined with what goes on
abbrev pub reduces_with : {Item : Type 0} → (Item → Item → Item) → Item → List (List Item) → Item → List Item
reduces_with join unit [] more = []
reduces_with join unit (segment ∷ others) more =
    up_to_start join (fold_of join unit segment) others more ∷ reduces_with join unit others more

-- the ranks' reduces, in order
abbrev pub reduces_over_ranks : {Item : Type 0} → (Item → Item → Item) → Item → List (List Item × List (List Item)) → List Item
reduces_over_ranks join unit [] = []
reduces_over_ranks join unit (part ∷ others) =
    reduces_with join unit part.1 (goes_on_behind join unit others) ++ reduces_over_ranks join unit others
