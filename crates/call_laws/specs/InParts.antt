-- Calls on a vector that comes in parts.
-- Source: Blelloch, Prefix Sums and Their Applications, 1990: processors sum up their parts, scan the sums, and scan their
-- parts from there.
use Rattle.std.specs.Prelude.{ℕ, ◌+◌, List, ◌++◌, map, sum, zip, nat_lt, Option, None, option_map, Result, Ok, Err}
use Rattle.cvl_base.specs.declared.fault.Fault.{Fault}
use Rattle.cvl_base.specs.declared.fault.FaultNo.TheVariants as no
use Rattle.cvl_base.specs.Faults.{fault}
use Rattle.cvl_base.specs.Folds.{scan_of}
use Rattle.cvl_base.specs.Gives.{◌>>=◌, after, fault_if, unless}
use Rattle.cvl_base.specs.Segmented.{moved}

-- each part's scan from what stands before the part on
abbrev pub scans_after : {Item : Type 0} → (Item → Item → Item) → List Item → List (List Item) → List (List Item)
scans_after join befores parts = map (λ p. scan_of join p.0 p.1) (zip befores parts)

-- what two parts give together, if the second starts at a place of the whole: the items of the first, then those of the second; the fault
-- is that of the first part, else that of the second, at its place in the whole
abbrev pub in_two : {X : Type 0} → ℕ → Result (List X) Fault → Result (List X) Fault → Result (List X) Fault
in_two start first second = first >>= λ done. after done (moved (λ place. start + place) second)

-- the same of two parts whose places are those of the whole already
abbrev pub in_turn : {X : Type 0} → Result (List X) Fault → Result (List X) Fault → Result (List X) Fault
in_turn first second = first >>= λ done. after done second

-- the fault of an answer, if it has a place
abbrev pub placed_fault : {X : Type 0} → Result X Fault → Option Fault
placed_fault (Ok x) = None
placed_fault (Err f) = option_map (λ _. f) f.place

-- the descriptor of lengths in two parts, if the second starts at a place of the whole. The fault is a negative length, which has a place,
-- the first part's before the second's; else the total, the sum of both parts' totals, if it is above `most`
abbrev pub descriptor_in_two : ℕ → ℕ → Result (List ℕ) Fault → Result (List ℕ) Fault → Result (List ℕ) Fault
descriptor_in_two most start first second =
    unless (placed_fault first)
    (unless (placed_fault (moved (λ place. start + place) second))
    (first >>= λ lengths. second >>= λ more.
    fault_if (nat_lt most (sum lengths + sum more)) (fault no.TooLong) (Ok (lengths ++ more))))

-- a replace on a copy in two parts: the first part's if it has the index, beside the second part as it was, else the second part's after
-- the first as it was
abbrev pub replaced_in_two : {X : Type 0} → List X → List X → Result (List X) Fault → Result (List X) Fault → Result (List X) Fault
replaced_in_two xs ys (Ok changed) second = Ok (changed ++ ys)
replaced_in_two xs ys (Err f) second = after xs second
