-- The destinations of a permute by segments: for each segment how many places it has in the result, and where its own are sent.
-- Source: CVL's segmented permutes, each of which permutes every segment by itself.
use Rattle.std.specs.Prelude.{ℕ, ◌+◌, ℤ, Bool, List, [], ◌∷◌, ◌++◌, length, map, sum, Option, None}
use Rattle.std.specs.List.{zip}
use Rattle.std.specs.Option.{option_or}
use Rattle.cvl_base.specs.declared.fault.Fault.{Fault}
use Rattle.cvl_base.specs.Nests.{cut_of}
use Rattle.cvl_base.specs.Packs.{count_of}
use Rattle.cvl_base.specs.Permutes.{all_destinations, first_fault, flagged_destinations, wrongs}
use Rattle.permute_walks.specs.Senders.{senders_of}

-- if each place takes part, and the result has segments of its own lengths
abbrev pub all_in_segments : List ℕ → List ℕ → List ℤ → List (ℕ × List (Option ℤ))
all_in_segments lengths result_lengths index = zip result_lengths (map all_destinations (cut_of lengths index))

-- if the places take part whose flag is true, and a segment of the result has as many places
abbrev pub flagged_in_segments : List ℕ → List ℤ → List Bool → List (ℕ × List (Option ℤ))
flagged_in_segments lengths index flags =
    map (λ p. (count_of p.1, flagged_destinations p.0 p.1)) (zip (cut_of lengths index) (cut_of lengths flags))

-- how many places the result has, and how many destinations there are in all
abbrev pub places_in : List (ℕ × List (Option ℤ)) → ℕ
places_in segments = sum (map (λ p. p.0) segments)

-- how many destinations these segments have together
abbrev pub destinations_in : List (ℕ × List (Option ℤ)) → ℕ
destinations_in segments = sum (map (λ p. length p.1) segments)

-- the fault of the first bad place of all segments; the first destination stands at the place given
abbrev pub fault_from : ℕ → List (ℕ × List (Option ℤ)) → Option Fault
fault_from place [] = None
fault_from place (segment ∷ segments) =
    option_or (first_fault place (wrongs segment.0 segment.1)) (fault_from (place + length segment.1) segments)

-- the senders of all segments, in order
abbrev pub senders_from : ℕ → List (ℕ × List (Option ℤ)) → List ℕ
senders_from place [] = []
senders_from place (segment ∷ segments) = senders_of place segment.1 segment.0 ++ senders_from (place + length segment.1) segments
