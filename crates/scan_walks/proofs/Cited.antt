-- What the proofs of this crate cite of its specs, of the crates below and of the standard library, passed on from one place. Declares nothing.
pub use Rattle.std.proofs.Common.{[], ◌*ℤ◌, ◌*◌, ◌++◌, ◌+ℤ◌, ◌+◌, ◌-◌, ◌<◌, ◌∙◌, ◌∷◌, ◌≡◌, ◌≤ℤ◌, ◌≤◌, All, ap, append_assoc, arith, Bool, cond, drop, drop-set-lt, Err, false, FitsSigned, flat_map}
pub use Rattle.std.proofs.Common.{get_or, get_or-take, IsTrue, length, length-take-le, List, map, map-id, min, negsuc, None, of_z, Ok, Option, option_map, pos, refl, Result, rules, set}
pub use Rattle.std.proofs.Common.{slice_index_or, Some, subst, suc, sym, take, take-append-drop, take_all, to_z, true, unsigned_abs, vec_capacity, vec_len, w32, w64, zero, zip, ℕ, ℤ}
pub use Rattle.std.proofs.lemmas.Int.{fits_signed_mul, fold-int_max_bounds, fold-int_min_bounds, int_wrap-add_left, ints, to_z-of_z, unsigned_abs-mul}
pub use Rattle.std.proofs.lemmas.List.{drop-drop, drop_all, drop_more, get_or-drop, get_or-map, get_or_default, length-drop, length-map, length-take, map-append, take_more_set}
pub use Rattle.std.proofs.lemmas.List.Elements.{All-drop, All-get_or, All-head, All-tail, All-take}
pub use Rattle.std.proofs.lemmas.List.Folds.{map_fixed, prefix_len-append}
pub use Rattle.std.proofs.lemmas.List.Sums.{fold_more, prefix_len-le-length, prefix_len_passes, sum_by-drop_more, sum_by_more, sum_by_more_le}
pub use Rattle.std.specs.List.{AllPass}
pub use Rattle.std.specs.Option.{is_some, ok_or}
pub use Rattle.std.specs.Prelude.{if◌then◌else◌, sum}
pub use Rattle.cvl_base.proofs.Gives.{after-after, after-end, after-none}
pub use Rattle.cvl_base.proofs.Lists.{sum-cons, uncons}
pub use Rattle.cvl_base.proofs.Nests.{cut_at, length-cut, nest-fits}
pub use Rattle.cvl_base.proofs.Rooms.{differs, fits, told}
pub use Rattle.cvl_base.specs.CheckedSums.{checked_reduce_of, checked_scan_of, checked_seg_reduce_of, checked_seg_scan_of, fitting, totals_of}
pub use Rattle.cvl_base.specs.Elementwise.{values_from}
pub use Rattle.cvl_base.specs.Exact.{total_of}
pub use Rattle.cvl_base.specs.Faults.{fault_at}
pub use Rattle.cvl_base.specs.Folds.{fold_of, scan_of}
pub use Rattle.cvl_base.specs.Gives.{◌>>=◌, after}
pub use Rattle.cvl_base.specs.Integers.{greater_of, lesser_of, sum_of, wrap}
pub use Rattle.cvl_base.specs.ItemWords.{is_number}
pub use Rattle.cvl_base.specs.Nests.{cut_of, nest}
pub use Rattle.cvl_base.specs.Rooms.{in_room}
pub use Rattle.cvl_base.specs.Segmented.{at_segment, end_to_end, in_vector, moved, one_each, results_from}
pub use Rattle.cvl_base.specs.declared.fault.Fault.{Fault}
pub use Rattle.cvl_base.specs.declared.fault.FaultNo.TheVariants.{Overflow}
pub use Rattle.fresh.proofs.Written.{all_written}
pub use Rattle.operators.proofs.FoldLaws.{length-scan_of, scan_of-append, scan_of-cons, scan_of_more}
pub use Rattle.operators.specs.NumberLaws.{fits-is_number, is_number-fits, number_words}
pub use Rattle.range_walks.proofs.Segments.{cut_more, length-scans_of, length_here, one_long, one_scanned, range_left, range_lengths, range_read, read_at, scans_left, scans_parted}
pub use Rattle.range_walks.specs.Ranges.{continued, range_scan_of, reduces_of, scans_of, with_starts}
pub use Rattle.scan_walks.specs.Fronts.{fitting_front}
pub use Rattle.segdes.specs.Starts.{start_of}
