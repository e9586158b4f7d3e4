-- What the owners of places and the right to free a block own, at items of the row R.
use Rattle.std.specs.Prelude.{ℕ, ◌+◌, ◌*◌, ◌^◌, List, [], ◌∷◌, length, Option, Some, None}
use Rattle.std.specs.Mem.{type_size}
use Rattle.std_alloc.specs.Vec.Ownership.{owns_if, has_block}
use base.Fraction.{full_share}
use base.Fml.{Fml, ftrue, ffalse, fsep, flt, froom}
use mir.Syntax.{Ty, ty_array}
use mir.Raw.{raw}
use denote.RattleType.{RattleType}
use denote.Memory.{lone, part_at}
use denote.RawPtr.{Ptr, block_ptr, null_ptr}

module _ (R : RattleType) where
  -- one place, o bytes into the block b
  abbrev pub slot : ℕ → ℕ → Option R.Denot → Fml
  slot b o (Some x) = part_at R full_share x b o
  slot b o None = froom (raw (lone R.mir)) b o

  -- places side by side
  abbrev pub slots : ℕ → ℕ → List (Option R.Denot) → Fml
  slots b o [] = ftrue
  slots b o (c ∷ cs) = fsep (slot b o c) (slots b (o + type_size R) cs)

  -- the places from the first one of the block to the last of these take fewer than 2 ^ 63 bytes
  abbrev pub fit : ℕ → List (Option R.Denot) → Fml
  fit from cs = flt ((from + length cs) * type_size R) (2 ^ 63)

  -- the places of the block at p, from the one numbered `from` on
  abbrev pub cells_own : Ptr → ℕ → List (Option R.Denot) → Fml
  cells_own (block_ptr b o) from cs = fsep (fit from cs) (slots b (from * type_size R + o) cs)
  cells_own null_ptr from cs = ffalse

  -- the allocator's token for a block of n places; there is none for no place
  abbrev pub deed_owns : (Ty → Ptr → Fml) → Ptr → ℕ → Fml
  deed_owns token p n = owns_if (has_block n) (token (raw (ty_array (lone R.mir) n)) p)
