-- What holds of the fields of the room of a vector to be.
use Rattle.std.specs.Prelude.{◌≡◌, ℕ}
use Rattle.std.specs.Vec.{vec_capacity, vec_allocator}
use Rattle.std.specs.declared.vec.Vec.{Vec}
use denote.RawPtr.{Ptr}
use Rattle.fresh.specs.declared.block.Deed.{Deed}

-- the right to free its block is for its places, and the vector that gets them has the allocator and no block of its own
pub record IsRoom {X A : Type 0} (base : Ptr) (places : ℕ) (deed : Deed X A) (vec : Vec X A) : Type 0 where
  pub block : (deed.at ≡ base) × (deed.len ≡ places)
  pub vector : (vec_capacity vec ≡ 0) × (deed.alloc ≡ vec_allocator vec)
