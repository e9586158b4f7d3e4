-- What the proofs of this crate cite of the crates below and of the standard library, passed on from one place. Declares nothing.
pub use Rattle.std.proofs.Common.{[], if◌then◌else◌, ◌*ℤ◌, ◌*◌, ◌++◌, ◌+ℤ◌, ◌+◌, ◌-◌, ◌<◌, ◌^◌, ◌∙◌, ◌∷◌, ◌≡◌, ◌≢◌, ◌≤◌, add-one, ap, append-nil, append_assoc, arith, Bool, cond, drop, Err, false}
pub use Rattle.std.proofs.Common.{Fits, get_or, IfOk, inl, inr, le-ltb, length, length-append, length-drop, length-set, length-take, List, lt-ltb, map, min, nat_abs, negsuc, None, of_z, Ok, ok_or}
pub use Rattle.std.proofs.Common.{pos, refl, replicate, Result, rules, set, Some, subst, suc, sum, sym, T, take, take-take, take_all, to_z, true, unsigned_abs, vec_capacity, vec_len, w32, w64, zero}
pub use Rattle.std.proofs.Common.{zip, ℕ, ℤ}
pub use Rattle.std.proofs.lemmas.Int.{fits_signed_from_abs, int_wrap-add_left, int_wrap_fits, ints, to_z-of_z, to_z_pos, wraps}
pub use Rattle.std.proofs.lemmas.List.{drop-map, drop-take, drop_more, get_or-map, length-map, length-replicate, nil_from_length, take-map, take-set, take_min, take_more_set}
pub use Rattle.std.proofs.lemmas.List.FromFn.{get_or-map-range_with_len, length-map-range_with_len, map-range_with_len_more, take-map-range_with_len}
pub use Rattle.std.proofs.lemmas.List.Sums.{count_by-le-length, sum_by-take-drop, sum_by-take-le, sum_by_more, sum_by_more_le}
pub use Rattle.std.proofs.lemmas.Slice.Zip.{get_or-zip, length-zip}
pub use Rattle.std.specs.List.{list_all, range_with_len}
pub use Rattle.cvl_base.proofs.Lists.{sum-cons}
pub use Rattle.cvl_base.proofs.Packs.{count-cons}
pub use Rattle.cvl_base.proofs.Segmented.{beside-fits, beside-misfits, results-ok}
pub use Rattle.cvl_base.specs.Conversions.{integer_of}
pub use Rattle.cvl_base.specs.Faults.{fault, fault_at}
pub use Rattle.cvl_base.specs.Folds.{fold_of}
pub use Rattle.cvl_base.specs.Gives.{◌>>=◌, after, Gives}
pub use Rattle.cvl_base.specs.Integers.{sum_of, wrap}
pub use Rattle.cvl_base.specs.Limits.{most_elements, most_places}
pub use Rattle.cvl_base.specs.Packs.{count_of, pack_of}
pub use Rattle.cvl_base.specs.Segmented.{beside, end_to_end, in_vector, moved, of_three, of_two, one_each, results_from}
pub use Rattle.cvl_base.specs.SegmentedCalls.{seg_count_of, seg_index_within, seg_pack_of, seg_reduce_of}
pub use Rattle.cvl_base.specs.declared.fault.Fault.{Fault}
pub use Rattle.fresh.specs.Parts.{part}
pub use Rattle.fresh.specs.Places.{stretch, Stretch, with_items}
pub use Rattle.scan_walks.proofs.Parts.{ends_within, IsSegment, starts_more}
pub use Rattle.scan_walks.specs.Ranges.{continued, reduces_of}
pub use Rattle.tile_plan.specs.Ranges.{tile_count}
