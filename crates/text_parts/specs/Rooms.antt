-- Memory in which each part of a call has a text, or integers, of its own, as long as these can be.
-- Source: this library's text and input formats.
use Rattle.std.specs.Prelude.{ℕ, ◌+◌, ◌*◌, ◌/◌, ◌||◌, ◌==◌, nat_le, nat_lt, not, List, length, map, Result, Ok}
use Rattle.std.specs.List.{enumerate_from, list_all, zip}
use Rattle.cvl_base.specs.declared.fault.Fault.{Fault}
use Rattle.cvl_base.specs.declared.fault.FaultNo.TheVariants as no
use Rattle.cvl_base.specs.Faults.{fault}
use Rattle.cvl_base.specs.Gives.{◌>>=◌, fault_if}
use Rattle.cvl_base.specs.Limits.{most_places}

-- the most bytes that a memory has: 2^63 - 1
abbrev pub most_bytes : ℕ
most_bytes = 9223372036854775807

-- the most bytes of an integer and of a boolean in a text, with the space or the bracket behind it
abbrev pub integer_bytes : ℕ
integer_bytes = 12

-- and so has a boolean, of one byte
abbrev pub boolean_bytes : ℕ
boolean_bytes = 2

-- no fault, if there are no more numbers than a vector may have elements, and none is greater than this
abbrev pub in_limits : ℕ → List ℕ → Result (Unit {0}) Fault
in_limits most numbers =
    fault_if (nat_lt most_places (length numbers) || not (list_all (λ n. nat_le n most) numbers)) (fault no.TooLong) (Ok tt)

-- where the text of part k begins if so many elements and so many segments stand before the part: an element has so many bytes at most,
-- a segment two brackets and a space, and a text two brackets
abbrev pub text_begins : ℕ → ℕ → ℕ → ℕ → ℕ
text_begins each k start first = start * each + first * 3 + 2 * k

-- where the text of each part begins; and, since the starts have the number of all elements at their end, where the last one ends
abbrev pub text_rooms_of : ℕ → List ℕ → List ℕ → List ℕ
text_rooms_of each starts firsts = map (λ p. text_begins each p.0 p.1.0 p.1.1) (enumerate_from 0 (zip starts firsts))

-- the same for numbers that a vector and its segments may have
abbrev pub text_rooms_by : ℕ → List ℕ → List ℕ → Result (List ℕ) Fault
text_rooms_by each starts firsts =
    in_limits most_places starts >>= λ _. in_limits most_places firsts >>= λ _.
    fault_if (not (length starts == length firsts)) (fault no.LengthMismatch) (Ok (text_rooms_of each starts firsts))

-- where the integers of part k begin if so many bytes of a text stand before the part: n bytes have at most (n + 1) / 2 integers
abbrev pub integers_begin : ℕ → ℕ → ℕ
integers_begin k from = (from + k) / 2

-- where the integers of each part begin; and, since these have the number of all bytes at their end, where the last ones end
abbrev pub read_rooms_of : List ℕ → List ℕ
read_rooms_of from = map (λ p. integers_begin p.0 p.1) (enumerate_from 0 from)

-- the same for places in a text that a memory may hold
abbrev pub read_rooms_by : List ℕ → Result (List ℕ) Fault
read_rooms_by from = in_limits most_bytes from >>= λ _. Ok (read_rooms_of from)
