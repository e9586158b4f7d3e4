-- Where the parts begin into which a vector is cut evenly.
-- Source: this library's profile. No result depends on it.
use Rattle.std.specs.Prelude.{ℕ, ◌+◌, ◌-◌, ◌*◌, ◌/◌, ◌%◌, min, nat_lt, List, map, Result, Ok}
use Rattle.std.specs.List.{range_with_len}
use Rattle.cvl_base.specs.declared.fault.Fault.{Fault}
use Rattle.cvl_base.specs.declared.fault.FaultNo.TheVariants as no
use Rattle.cvl_base.specs.Faults.{fault}
use Rattle.cvl_base.specs.Gives.{◌>>=◌, fault_if}

-- where a part of so many begins: each has as many elements, and the first ones one more if some are left over
abbrev pub even_place : ℕ → ℕ → ℕ → ℕ
even_place len parts k = len / parts * k + min k (len % parts)

-- where each part begins, at last where all parts end
abbrev pub even_places : ℕ → ℕ → List ℕ
even_places len parts = map (even_place len parts) (range_with_len 0 (parts + 1))

-- how many parts so many places are for, at last where all end: one less, or LengthMismatch if that is no part
abbrev pub parts_of : ℕ → Result ℕ Fault
parts_of places = fault_if (nat_lt places 2) (fault no.LengthMismatch) (Ok (places - 1))

-- so many places of parts that are cut evenly
abbrev pub even_places_of : ℕ → ℕ → Result (List ℕ) Fault
even_places_of places len = parts_of places >>= λ parts. Ok (even_places len parts)
