-- Pack and count: the elements whose flag is true, in order, and how many they are.
-- Source: CVL's pack and count.
use Rattle.std.specs.Prelude.{ℕ, Bool, List, map, filter, count_by, Result, Ok}
use Rattle.std.specs.List.{zip}
use Rattle.cvl_base.specs.declared.fault.Fault.{Fault}
use Rattle.cvl_base.specs.Elementwise.{if_as_long}

-- the number of true flags
abbrev pub count_of : List Bool → ℕ
count_of flags = count_by (λ flag. flag) flags

-- the elements whose flag is true, in order; flags and elements must be equally many
abbrev pub pack_of : {X : Type 0} → List X → List Bool → Result (List X) Fault
pack_of xs flags = if_as_long xs flags (Ok (map (λ p. p.0) (filter (λ p. p.1) (zip xs flags))))
