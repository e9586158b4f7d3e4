-- The rooms of all parts, joined to a share of a call's room in the order of the parts.
-- Source: Blelloch's reduce in parts, at each place of a combining send.
use Rattle.std.specs.Prelude.{ℕ, ◌+◌, ◌-◌, nat_le, not, ℤ, pos, Bool, List, drop, length, map, replicate, take, Result, Ok}
use Rattle.std.specs.List.{list_all, zip}
use Rattle.cvl_base.specs.declared.fault.Fault.{Fault}
use Rattle.cvl_base.specs.declared.fault.FaultNo.TheVariants as no
use Rattle.cvl_base.specs.Faults.{fault}
use Rattle.cvl_base.specs.Folds.{fold_of}
use Rattle.cvl_base.specs.Gives.{fault_if}
use Rattle.cvl_base.specs.Integers.{sum_of}

-- where the room of each part begins; at the last of the boundaries they end
abbrev pub starts_of : List ℕ → List ℕ
starts_of boundaries = take (length boundaries - 1) boundaries

-- whether n places from `from` on of each room lie in a memory that is so long
abbrev pub lie_within : ℕ → ℕ → ℕ → List ℕ → Bool
lie_within memory from n starts = list_all (λ start. nat_le (start + from + n) memory) starts

module _ {X : Type 0} where
  -- n places from `from` on of each room
  abbrev pub shares_of : ℕ → ℕ → List X → List ℕ → List (List X)
  shares_of from n memory starts = map (λ start. take n (drop (start + from) memory)) starts

  -- each place joined with the same place of a room
  abbrev pub with_room : (X → X → X) → List X → List X → List X
  with_room join before room = map (λ p. join p.0 p.1) (zip before room)

  -- what stood before, joined with some rooms in their order
  abbrev pub with_rooms : (X → X → X) → List X → List (List X) → List X
  with_rooms join before rooms = fold_of (with_room join) before rooms

  -- a share of a call's room, its places from `from` on, joined with the same places of each part's room; or LengthMismatch if these do not
  -- lie in the memory of the rooms
  abbrev pub joined_share_of : (X → X → X) → ℕ → List ℕ → List X → List X → Result (List X) Fault
  joined_share_of join from boundaries memory before =
      fault_if (not (lie_within (length memory) from (length before) (starts_of boundaries))) (fault no.LengthMismatch)
      (Ok (with_rooms join before (shares_of from (length before) memory (starts_of boundaries))))

-- the same of counts, which begin with 0, of n places
abbrev pub joined_counts_of : ℕ → List ℕ → List ℤ → ℕ → Result (List ℤ) Fault
joined_counts_of from boundaries memory n = joined_share_of sum_of from boundaries memory (replicate n (pos 0))
