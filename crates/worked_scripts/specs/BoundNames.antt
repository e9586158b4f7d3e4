-- As many bound names as there may be, and what a line does with them.
-- Source: this library's script format.
use Prim.Native.String.{String}
use Rattle.std.specs.Prelude.{ℕ, zero, suc, ◌+◌, ◌/◌, ◌%◌, pos, true, List, [], ◌∷◌, codes, map, Result}
use Rattle.std.specs.List.{range_with_len}
use Rattle.cvl_base.specs.declared.fault.Fault.{Fault}
use Rattle.cvl_base.specs.declared.value.Value.TheVariants.{Integers, Boolean}
use Rattle.cvl_base.specs.Limits.{most_names}
use Rattle.vector_handles.specs.Names.{Entries}
use Rattle.vector_handles.specs.Steps.{Stepped}
use Rattle.script_runs.specs.Meaning.{line_step}
use Rattle.worked_scripts.specs.Outcomes.{Plain}

-- `n0000` to `n7777`, counted by eights: 110 is `n`, and 48 is `0`
abbrev name_of : ℕ → List ℕ
name_of k = 110 ∷ map (λ digit. 48 + digit) (k / 512 ∷ k / 64 % 8 ∷ k / 8 % 8 ∷ k % 8 ∷ [])

-- the first two names are vectors of two elements and of one
abbrev bound_to : ℕ → Plain
bound_to zero = Integers (pos 1 ∷ pos 2 ∷ [])
bound_to (suc zero) = Integers (pos 1 ∷ [])
bound_to _ = Boolean true

-- 4,096 names, in their order
abbrev pub full : Entries (Unit {0})
full = map (λ k. (name_of k, bound_to k)) (range_with_len 0 most_names)

-- what a line does over these names, without inputs
abbrev pub step_over : Entries (Unit {0}) → String → Result (Stepped (Unit {0})) Fault
step_over names line = line_step names [] (codes line)
