-- What the proofs of this crate cite of the crates below and of the standard library, passed on from one place. Declares nothing.
pub use borrow.Rule.Slice.PartMut.{put_mid, same_len_mid}
pub use Rattle.std.proofs.Common.{[], if◌then◌else◌, ◌++◌, ◌+◌, ◌-◌, ◌<◌, ◌∙◌, ◌∷◌, ◌≡◌, ◌≢◌, ◌≤◌, ap, append-nil, append_assoc, arith, Bool, cond, count_by, drop, drop-drop, Err, ext_get_or, false}
pub use Rattle.std.proofs.Common.{get_or, get_or-drop, get_or-set_other, get_or-set_same, get_or-take, inl, inr, le-leb, le-ltb, leb, length, length-append, length-drop, length-set, length-take-le}
pub use Rattle.std.proofs.Common.{List, lt-ltb, ltb, map, negsuc, None, Ok, Option, pos, refl, replicate, rules, set, Some, subst, sum, sym, take, take_all, to_z, true, unsigned_abs, w32, zip, ℕ, ℤ}
pub use Rattle.std.proofs.lemmas.List.{at_drop_more, drop_all, drop_more}
pub use Rattle.std.proofs.lemmas.List.FromFn.{get_or-map-range_with_len, length-map-range_with_len, length-range_with_len}
pub use Rattle.std.proofs.lemmas.List.Sums.{sum_by-cons, sum_by-take-le, sum_by_more}
pub use Rattle.cvl_base.proofs.Permutes.{length-flagged_destinations}
pub use Rattle.cvl_base.specs.Faults.{fault, fault_at}
pub use Rattle.cvl_base.specs.Permutes.{destination_if, first_fault, is_destination, is_place, place_among}
pub use Rattle.cvl_base.specs.declared.fault.Fault.{Fault}
pub use Rattle.cvl_base.specs.declared.fault.FaultNo.TheVariants.{IndexOutOfRange, LengthMismatch}
pub use Rattle.permute_walks.proofs.Sent.{other_place, told_again}
pub use Rattle.permute_walks.proofs.Told.{fits_in_room, IsTold, mismatch, told_err}
