-- A part's piece of the text of all, and of the integers of all.
-- Source: this library's text format.
use Rattle.std.specs.Prelude.{ℕ, zero, suc, ◌-◌, ◌==◌, nat_lt, if◌then◌else◌, List, [], ◌∷◌, ◌++◌, codes, drop, length, take, Result, Ok}
use Rattle.cvl_base.specs.declared.fault.Fault.{Fault}
use Rattle.cvl_base.specs.declared.fault.FaultNo.TheVariants as no
use Rattle.cvl_base.specs.Faults.{fault}
use Rattle.cvl_base.specs.Gives.{fault_if}
use Rattle.cvl_base.specs.Rooms.{in_room}

-- what stands between the brackets of a text
abbrev pub inside_of : List ℕ → List ℕ
inside_of text = take (length text - 2) (drop 1 text)

-- what stands before the elements of a part whose piece begins at this place: a bracket (91) at the front of all, else a space (32)
abbrev pub opening : ℕ → ℕ
opening zero = 91
opening (suc n) = 32

-- the piece of a part that is not the last, of which this stands between the brackets of its own text
abbrev pub piece_of : ℕ → List ℕ → List ℕ
piece_of place [] = []
piece_of place (b ∷ bs) = opening place ∷ b ∷ bs

-- that of the last part, which has the last bracket; with nothing at all before it the text is `[]`
abbrev pub last_piece_of : ℕ → List ℕ → List ℕ
last_piece_of zero [] = codes "[]"
last_piece_of (suc n) [] = codes "]"
last_piece_of place (b ∷ bs) = piece_of place (b ∷ bs) ++ codes "]"

-- the piece that fills a room of this length
abbrev pub piece_in : ℕ → ℕ → List ℕ → Result (List ℕ) Fault
piece_in room place inside =
    if length (piece_of place inside) == room then Ok (piece_of place inside) else in_room room (Ok (last_piece_of place inside))

-- the same for a part whose own text is so many of these bytes
abbrev pub put_text_of : ℕ → ℕ → List ℕ → ℕ → Result (List ℕ) Fault
put_text_of place count own room =
    fault_if (nat_lt (length own) count) (fault no.LengthMismatch) (piece_in room place (inside_of (take count own)))

-- as many of these as a room of this length has places
abbrev pub first_of : {X : Type 0} → ℕ → List X → Result (List X) Fault
first_of room own = fault_if (nat_lt (length own) room) (fault no.LengthMismatch) (Ok (take room own))
