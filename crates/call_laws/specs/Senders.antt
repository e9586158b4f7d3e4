-- Those places that have a sender, and their senders.
-- Source: this library's profile, in which -1 is none.
use Rattle.std.specs.Prelude.{ℕ, ℤ, pos, negsuc, Bool, true, false, List, Option}
use Rattle.std.specs.List.{filter, range_with_len}
use Rattle.first_senders.specs.FirstSenders.{first_sender, first_senders}

-- whether there is a sender
abbrev pub is_sender : ℤ → Bool
is_sender (pos k) = true
is_sender (negsuc k) = false

-- the places among 0 to m - 1 that have one
abbrev pub named_places : List (Option ℤ) → ℕ → List ℕ
named_places destinations m = filter (λ d. is_sender (first_sender destinations d)) (range_with_len 0 m)

-- their first senders
abbrev pub found_senders : List (Option ℤ) → ℕ → List ℤ
found_senders destinations m = filter is_sender (first_senders destinations 0 m)
