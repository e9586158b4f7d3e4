-- What each worker of a race for least places did.
-- Source: the priority write of a parallel machine with concurrent writes, by which the least of all writers of a cell wins; that each
-- worker's steps are kept is this library's.
use Rattle.std.specs.Prelude.{ℕ, ◌==◌, min, List, [], ◌∷◌, ◌++◌, if◌then◌else◌, nat_lt, Option, Some, None}
use Rattle.status_word.specs.declared.pass.Hand.{Hand}
use Rattle.status_word.specs.Hands.{hand_dealt, hands_joined, new_hand}
use Rattle.least_boards.specs.declared.least_pass.LeastPass.{LeastPass}
use Rattle.least_boards.specs.declared.least_pass.Low.{Low}

-- stands in the word of a slot in which no place was lowered: the greatest number of 64 bits, which is no place
abbrev pub no_place : ℕ
no_place = 18446744073709551615

-- the number that stands in a word for a place, or for none
abbrev pub word_of_place : Option ℕ → ℕ
word_of_place None = no_place
word_of_place (Some place) = place

-- the place for which a number stands in a word: a number of more than 32 bits is none
abbrev pub place_of_word : ℕ → Option ℕ
place_of_word word = if nat_lt word 4294967296 then Some word else None

-- what is known at first: the board's targets and the number of its tiles, by one that stands for so many workers
abbrev pub first_least_pass : List (Option ℕ) → ℕ → ℕ → LeastPass
first_least_pass targets tiles workers =
    record { targets = targets; tiles = tiles; hand = new_hand workers; lowered = []; seen = [] }

-- the pass of one worker that has done nothing
abbrev pub new_least_pass : List (Option ℕ) → ℕ → LeastPass
new_least_pass targets tiles = first_least_pass targets tiles 1

-- what is left of a pass that is joined to another
abbrev pub spent_least_pass : LeastPass
spent_least_pass = first_least_pass [] 0 0

-- only the hand changes
abbrev pub on_least_hand : (Hand → Hand) → LeastPass → LeastPass
on_least_hand change p = record p { hand = change p.hand }

-- a pass of several workers is cut: the new pass stands for one of them
abbrev pub split_least_left : LeastPass → LeastPass
split_least_left p = on_least_hand hand_dealt p

-- the right one of two passes after a split: that of a worker that has done nothing
abbrev pub split_least_right : LeastPass → LeastPass
split_least_right p = new_least_pass p.targets p.tiles

-- two passes are made one
abbrev pub least_passes_joined : LeastPass → LeastPass → LeastPass
least_passes_joined p other = record {
  targets = p.targets;
  tiles = p.tiles;
  hand = hands_joined p.hand other.hand;
  lowered = p.lowered ++ other.lowered;
  seen = p.seen ++ other.seen;
}

-- a place is lowered in a slot
abbrev pub place_lowered : LeastPass → ℕ → ℕ → LeastPass
place_lowered p slot place = record p { lowered = record { slot = slot; place = place } ∷ p.lowered }

-- a place, or none, is seen in a slot
abbrev pub place_seen : LeastPass → ℕ → ℕ → LeastPass
place_seen p slot place = record p { seen = record { slot = slot; place = place } ∷ p.seen }

-- the least of the places in that slot, or no place
abbrev pub lowest : ℕ → List Low → ℕ
lowest slot [] = no_place
lowest slot (low ∷ lows) = min (if low.slot == slot then low.place else no_place) (lowest slot lows)

-- the least that the worker lowered there, and the least that it saw there
abbrev pub lowered_in : ℕ → LeastPass → ℕ
lowered_in slot p = lowest slot p.lowered

-- the least place that a pass saw in a slot
abbrev pub seen_in : ℕ → LeastPass → ℕ
seen_in slot p = lowest slot p.seen

-- the least place that a pass lowered or saw in a slot
abbrev pub known_in : ℕ → LeastPass → ℕ
known_in slot p = min (lowered_in slot p) (seen_in slot p)

-- the least of a measure over all workers
abbrev pub lowest_of : {X : Type 0} → (X → ℕ) → List X → ℕ
lowest_of f [] = no_place
lowest_of f (x ∷ xs) = min (f x) (lowest_of f xs)
