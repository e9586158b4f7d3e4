-- The calls that make a vector of a given length.
-- Source: CVL's distribute and index; the limit and the faults are this library's profile.
use Rattle.std.specs.Prelude.{ℕ, ℤ, pos, negsuc, ◌+ℤ◌, ◌*ℤ◌, List, map, replicate, nat_lt, Result, Ok, Err}
use Rattle.std.specs.List.{range_with_len}
use Rattle.cvl_base.specs.declared.fault.Fault.{Fault}
use Rattle.cvl_base.specs.declared.fault.FaultNo.TheVariants as no
use Rattle.cvl_base.specs.Faults.{fault}
use Rattle.cvl_base.specs.Gives.{◌>>=◌, fault_if}
use Rattle.operators.specs.Integers.{wrap}
use Rattle.cvl_base.specs.Limits.{most_elements}

-- the length that a single count asks for, if it is at most `most`
abbrev pub length_within : ℕ → ℤ → Result ℕ Fault
length_within most (pos n) = fault_if (nat_lt most n) (fault no.TooLong) (Ok n)
length_within most (negsuc n) = Err (fault no.NegativeLength)

-- copies of one value
abbrev pub distribute_within : {X : Type 0} → ℕ → X → ℤ → Result (List X) Fault
distribute_within most value count = length_within most count >>= λ n. Ok (replicate n value)

-- init + k * stride at place k
abbrev pub index_within : ℕ → ℤ → ℤ → ℤ → Result (List ℤ) Fault
index_within most init stride count =
    length_within most count >>= λ n. Ok (map (λ k. wrap (init +ℤ pos k *ℤ stride)) (range_with_len 0 n))

-- the same with the limit of scripts and sessions
abbrev pub as_length : ℤ → Result ℕ Fault
as_length = length_within most_elements

-- n copies of a value, for n up to the limit of scripts
abbrev pub distribute_of : {X : Type 0} → X → ℤ → Result (List X) Fault
distribute_of = distribute_within most_elements

-- init, init + stride, init + 2 stride, ..., each wrapped, for a length up to the limit of scripts
abbrev pub index_of : ℤ → ℤ → ℤ → Result (List ℤ) Fault
index_of = index_within most_elements
