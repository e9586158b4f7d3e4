-- Where the marks of each part's places stand, 32 in a word, so that no two parts share a word.
-- Source: this library's permutes in parts: a part marks the places of its own range of the result.
use Rattle.std.specs.Prelude.{ℕ, ◌+◌, ◌/◌, nat_le, not, List, map, Result}
use Rattle.std.specs.List.{enumerate_from, list_all}
use Rattle.cvl_base.specs.declared.fault.Fault.{Fault}
use Rattle.cvl_base.specs.declared.fault.FaultNo.TheVariants as no
use Rattle.cvl_base.specs.Faults.{fault}
use Rattle.cvl_base.specs.Gives.{fault_if}
use Rattle.cvl_base.specs.Limits.{most_places}

-- where the words of a part begin whose range begins at place `from`, behind k other parts: each of these may leave bits of a word unused
abbrev pub mark_place : ℕ → ℕ → ℕ
mark_place k from = from / 32 + k

-- the same for each part, in order
abbrev pub mark_places_of : List ℕ → List ℕ
mark_places_of from = map (λ p. mark_place p.0 p.1) (enumerate_from 0 from)

-- the call, if all parts begin within the longest vector
abbrev pub within_longest : {Y : Type 0} → List ℕ → Result Y Fault → Result Y Fault
within_longest from call = fault_if (not (list_all (λ place. nat_le place most_places) from)) (fault no.TooLong) call
