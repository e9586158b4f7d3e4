-- What the proofs of this crate cite of its specs, of the crates below and of the standard library, passed on from one place. Declares nothing.
pub use Rattle.std.proofs.Common.{[], if◌then◌else◌, ◌++◌, ◌+◌, ◌-◌, ◌<◌, ◌∙◌, ◌∷◌, ◌≡◌, ◌≤◌, ap, append-nil, arith, Bool, drop, drop-drop, drop_at, false, Fits, get_or, IsTrue, length}
pub use Rattle.std.proofs.Common.{length-append, length-drop, length-take, length-take-le, List, map, min, of_z, pos, refl, rules, slice_range, subst, suc, sum, sym, take, take-add, take-take}
pub use Rattle.std.proofs.Common.{take_all, to_z, true, unsigned_abs, w32, w64, zero, ℕ, ℤ}
pub use Rattle.std.proofs.lemmas.Grind.{common_steps, flat_map-append}
pub use Rattle.std.proofs.lemmas.List.{drop-append-le, drop-map, drop-take, drop_all, drop_min, drop_more, get_or-map, length-map, map-append, take-map, take_min}
pub use Rattle.std.proofs.lemmas.List.Elements.{All-drop, All-head, All-map, All-take}
pub use Rattle.std.proofs.lemmas.List.Sums.{fold-append, fold_more, sum_by-append, sum_by-drop_more, sum_by-take-drop, sum_by_more}
pub use Rattle.std.proofs.lemmas.Slice.{between_is}
pub use Rattle.std.specs.List.{AllPass}
pub use Rattle.cvl_base.proofs.FoldLaws.{fold_of_is_item, length-scan_of, scan_of-cons, scan_of_more}
pub use Rattle.cvl_base.proofs.Lists.{sum-cons}
pub use Rattle.cvl_base.specs.Folds.{fold_of, scan_of}
pub use Rattle.cvl_base.specs.Monoid.{MonoidLaws}
pub use Rattle.cvl_base.specs.Nests.{cut_of}
pub use Rattle.fresh.proofs.Written.{all_written, one_written, written_twice}
pub use Rattle.fresh.specs.Places.{stretch, Stretch, with_items}
pub use Rattle.range_walks.specs.Ranges.{continued, IsOpenAt, range_between, range_scan_of, reduces_of, scans_of, started, with_starts}
pub use Rattle.segdes.specs.Starts.{start_of}
