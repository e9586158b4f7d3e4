-- Places may cross threads as their items may, and the right to free a block as its allocator may.
use Rattle.fresh.proofs.Cited.{rules, ℕ, ◌+◌, ◌*◌, List, [], ◌∷◌, Option, Some, None, type_size, RattleType, Ptr, block_ptr, null_ptr, shape, to, IsSend, IsSync}
use Rattle.fresh.proofs.Cited.{part_keyless, struct_sync, sendable, Ghosts, slots, cells_own}
use mathlib.Core.Bool.{Bool, true, false}
use base.Fraction.{full_share}
use base.Fml.{Fml}
use base.Shift.{Keyless}
use Rattle.std_alloc.specs.Vec.Ownership.{owns_if}
use Rattle.std_alloc.proofs.SendSync.{FreesAnywhere, quiet}
use Rattle.fresh.specs.contracts.cells.Cells as Cells
use Rattle.fresh.specs.contracts.block.Deed as Deed

owns_if-Keyless : (y : Bool) (F : Fml) → Keyless F → Keyless (owns_if y F)
owns_if-Keyless true F k = k
owns_if-Keyless false F k = tt

module _ (R : RattleType) where
  slots-Keyless : IsSend R → (b o : ℕ) (cs : List (Option R.Denot)) → Keyless (slots R b o cs)
  slots-Keyless s b o [] = tt
  slots-Keyless s b o (Some x ∷ cs) = (part_keyless R s full_share x b o, slots-Keyless s b (o + type_size R) cs)
  slots-Keyless s b o (None ∷ cs) = (tt, slots-Keyless s b (o + type_size R) cs)

  cells-Keyless : IsSend R → (p : Ptr) (from : ℕ) (cs : List (Option R.Denot)) → Keyless (cells_own R p from cs)
  cells-Keyless s (block_ptr b o) from cs = (tt, slots-Keyless s b (from * type_size R + o) cs)
  cells-Keyless s null_ptr from cs = tt

  pub Cells-send : IsSend R → IsSend (Cells.the_row R)
  Cells-send s = search (rules, cells-Keyless, quiet)

  pub Cells-sync : IsSync (Cells.the_row R)
  Cells-sync = let O = Cells.the_type R in record { shared = λ d b o κ. ((struct_sync (shape O) (search sendable, tt)).shared (to O d) b o κ, tt) }

  module _ (A : RattleType) (g : Ghosts A.Denot) where
    pub Deed-send : FreesAnywhere A.Denot g → IsSend (Deed.the_row R A g)
    Deed-send f = search (rules, owns_if-Keyless, quiet)

    pub Deed-sync : IsSync (Deed.the_row R A g)
    Deed-sync = let O = Deed.the_type R A g in record { shared = λ d b o κ. ((struct_sync (shape O) (search sendable, tt)).shared (to O d) b o κ, tt) }
