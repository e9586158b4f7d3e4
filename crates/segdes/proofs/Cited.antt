-- What the proofs of this crate cite of the crates below and of the standard library, passed on from one place. Declares nothing.
pub use Rattle.std.proofs.Common.{[], ◌*◌, ◌++◌, ◌+◌, ◌-◌, ◌<◌, ◌∙◌, ◌∷◌, ◌≡◌, ◌≤◌, ap, arith, below_more, Bool, cond, drop, drop-drop, Err, false, Fits, get_or, inl, inr, le-ltb, length}
pub use Rattle.std.proofs.Common.{length-append, length-drop, List, lt-ltb, ltb, ltb-false, ltb-true, map, nat_lt, None, of_z, Ok, Option, option_map, pos, position, refl, rules, Some, subst, suc}
pub use Rattle.std.proofs.Common.{sum, sym, take, take-take, take_all, to_z, true, unsigned_abs, vec_capacity, vec_len, w32, w64, zero, ℕ, ℤ}
pub use Rattle.std.proofs.Math.Facts.{Fits-below}
pub use Rattle.std.proofs.Math.Seq.{drop-append-add, get_or-append_seam, take-add, take-length}
pub use Rattle.std.proofs.lemmas.List.{drop-append-le, get_or-map, get_or_append_left, length-map, nil_from_length, take-append-le}
pub use Rattle.std.proofs.lemmas.List.Sums.{position_or_len_is, sum_by-take-le, sum_by_more, sum_by_more_le}
pub use Rattle.std.specs.Int.{is_negative, IsNonNegative, Width}
