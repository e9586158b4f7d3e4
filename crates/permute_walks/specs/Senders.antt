-- The last senders of a range of a permute's result, and what the elements of senders make of what stood there.
-- Source: CVL's permute, d[i[k]] = s[k], in which k is the sender of its index.
use Rattle.std.specs.Prelude.{◌≡◌, ℕ, ◌+◌, ◌==◌, ℤ, pos, negsuc, Bool, false, not, ◌&&◌, nat_le, nat_lt, get_or, take, if◌then◌else◌, List}
use Rattle.std.specs.Prelude.{[], ◌∷◌, count_by, length, map}
use Rattle.std.specs.Prelude.{is_some, slice_get, Option, Some, None, unwrap_or}
use Rattle.std.specs.List.{filter, range_with_len, zip}
use Rattle.permute_walks.specs.Marks.{mark_words}
use Rattle.cvl_base.specs.Permutes.{is_destination}
pub use Rattle.sent_places.specs.Senders.{IsStored, count_sent, fault_told, nobody, sender_from, senders_of, wrong_with}

-- which places have a sender
abbrev pub sent_marks : List ℕ → List Bool
sent_marks senders = map (λ s. not (s == nobody)) senders

-- the place of the last destination that is d, or the other number if none is; the first of all stands at the place given
abbrev pub last_sender_from : ℕ → ℕ → List (Option ℤ) → ℕ → ℕ
last_sender_from other place [] d = other
last_sender_from other place (t ∷ ts) d = last_sender_from (if is_destination (pos d) t then place else other) (place + 1) ts d

-- the last senders of the n places from `lowest` on
abbrev pub last_senders : ℕ → List (Option ℤ) → ℕ → ℕ → List ℕ
last_senders place destinations lowest n = map (last_sender_from nobody place destinations) (range_with_len lowest n)

-- how many places take part
abbrev pub count_destinations : List (Option ℤ) → ℕ
count_destinations destinations = count_by is_some destinations

-- the values after the elements of senders were written over them: nobody has no element, and the value stays
abbrev pub written_over : {X : Type 0} → List X → List ℕ → List X → List X
written_over source senders values = map (λ p. unwrap_or (slice_get source p.0) p.1) (zip senders values)

-- the element of each sender, or another one for nobody, who has none
abbrev pub elements_or : {X : Type 0} → List X → X → List ℕ → List X
elements_or source other senders = map (λ s. unwrap_or (slice_get source s) other) senders

-- whether a destination is one of the places from `lowest` on and before `end`
abbrev pub is_between : ℕ → ℕ → Option ℤ → Bool
is_between lowest end None = false
is_between lowest end (Some (pos d)) = nat_le lowest d && nat_lt d end
is_between lowest end (Some (negsuc d)) = false

-- which of so many places from `first` on are sent there
abbrev pub places_between : List (Option ℤ) → ℕ → ℕ → ℕ → ℕ → List ℕ
places_between destinations lowest end first many = filter (λ k. is_between lowest end (get_or destinations k None))
    (range_with_len first many)

-- What the first k places leave in the range of the result from `lowest` on, over what stood there: the element of the last sender of each
-- place, and a mark at each that has one.
pub record IsWrittenTo {X : Type 0} (source : List X) (destinations : List (Option ℤ)) (lowest : ℕ) (before : List X) (k : ℕ)
    (room : List X) (marks : List ℕ) : Type 0 where
  pub written : room ≡ written_over source (last_senders 0 (take k destinations) lowest (length before)) before
  pub marked : marks ≡ mark_words (sent_marks (last_senders 0 (take k destinations) lowest (length before)))
