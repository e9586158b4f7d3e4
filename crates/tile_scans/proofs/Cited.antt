-- What the proofs of this crate cite of the crates below and of the standard library, passed on from one place. Declares nothing.
pub use Rattle.std.proofs.Common.{[], if◌then◌else◌, ◌*◌, ◌++◌, ◌+◌, ◌-◌, ◌<◌, ◌∙◌, ◌∷◌, ◌≡◌, ◌≤◌, ap, arith, Bool, drop, drop-drop, false, get_or, IfOk, IsTrue, length, List, map, map-id, min}
pub use Rattle.std.proofs.Common.{None, Ok, Option, option_copied, refl, rules, slice_range, Some, subst, suc, sum, sym, take, take-add, take_all, true, vec_capacity, vec_len, zero, ℕ}
pub use Rattle.std.proofs.lemmas.List.{drop-map, length-map, take-map}
pub use Rattle.std.proofs.lemmas.List.Elements.{All-append, All-cons, All-drop, All-from_get_or, All-head, All-map, All-nil, All-tail, All-take}
pub use Rattle.std.proofs.lemmas.List.FromFn.{fill_by_all, get_or-map-range_with_len, length-map-range_with_len, map-range_with_len_more}
pub use Rattle.std.proofs.lemmas.List.Sums.{AllPass-from_list_all, fold-append, fold_more, list_all-from_AllPass, sum_by_more}
pub use Rattle.std.specs.List.{AllPass, list_all, range_with_len}
pub use Rattle.boards.specs.Boards.{IsSeatOf, ScanSeated}
pub use Rattle.cvl_base.specs.Booleans.{either}
pub use Rattle.cvl_base.specs.Folds.{fold_of, scan_of}
pub use Rattle.cvl_base.specs.Limits.{most_elements}
pub use Rattle.cvl_base.specs.Monoid.{MonoidLaws}
pub use Rattle.cvl_base.specs.SegmentMonoid.{is_seg_item, seg_join, seg_unit}
pub use Rattle.cvl_base.specs.TileSums.{before_tile}
pub use Rattle.fresh.specs.Parts.{length_part, part}
pub use Rattle.fresh.specs.Places.{stretch, Stretch, with_items}
pub use Rattle.operators.proofs.FoldLaws.{fold_of-append, fold_of_is_item, scan_of-cons}
pub use Rattle.scan_walks.proofs.LastStart.{continued_summed, length-with_starts, started_range_summed}
pub use Rattle.scan_walks.proofs.Scanned.{part_read}
pub use Rattle.scan_walks.proofs.Segmented.{length-reduces_of, seg_reduce-fits, seg_scan-fits}
pub use Rattle.scan_walks.specs.Ranges.{continued, IsOpenAt, range_between, range_scan_of, reduces_of, started, with_starts}
pub use Rattle.tile_plan.specs.Ranges.{range_of, tile_count, Tiling}
