-- What the proofs of this crate cite of the crates below and of the standard library, passed on from one place. Declares nothing.
pub use Rattle.std.proofs.Common.{[], ◌&&◌, ◌+◌, ◌-◌, ◌<◌, ◌∙◌, ◌∷◌, ◌≡◌, ◌≤◌, ap, arith, below_more, Bool, drop, drop-cons, Err, false, get_or, get_or-set_other, get_or-set_same, is_some, IsTrue}
pub use Rattle.std.proofs.Common.{length, List, map, min, None, Ok, Option, pos, refl, set, slice_index_or, Some, subst, suc, sym, true, true≢false, unwrap_or, zero, zip, ℕ, ℤ}
pub use Rattle.std.proofs.lemmas.List.{get_or-map, length-map}
pub use Rattle.std.proofs.lemmas.Slice.Zip.{get_or-zip, length-zip}
pub use Rattle.boards.specs.Slots.{least_from}
pub use Rattle.cvl_base.proofs.Elementwise.{if_as_long-fits}
pub use Rattle.cvl_base.proofs.Rooms.{differs, told}
pub use Rattle.cvl_base.specs.Elementwise.{chosen, on_pairs_or, values_from}
pub use Rattle.cvl_base.specs.Rooms.{in_room, Overwrites}
pub use Rattle.element_walks.proofs.Places.{all_same, values_long}
