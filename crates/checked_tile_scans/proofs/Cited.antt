-- What the proofs of this crate cite of the crates below and of the standard library, passed on from one place. Declares nothing.
pub use Rattle.std.proofs.Common.{[], ◌*◌, ◌++◌, ◌+ℤ◌, ◌+◌, ◌-◌, ◌<◌, ◌∙◌, ◌∷◌, ◌≡◌, ◌≤◌, ap, append_assoc, arith, Bool, drop, drop-drop, Err, false, FitsSigned, get_or, IsTrue, length, List}
pub use Rattle.std.proofs.Common.{ltb-false, ltb-true, map, min, None, of_z, Ok, Option, option_map, pos, refl, rules, slice_range, Some, subst, suc, sum, sym, take, take-add, take-append-drop}
pub use Rattle.std.proofs.Common.{take_all, to_z, true, w32, w64, zero, ℕ, ℤ}
pub use Rattle.std.proofs.lemmas.Bool.{false_from_ne_true, le-ltb, lt-ltb}
pub use Rattle.std.proofs.lemmas.Int.{int_wrap-add_left, ints, to_z-of_z}
pub use Rattle.std.proofs.lemmas.List.{drop_more, get_or-map, length-append, length-drop, length-map, length-take}
pub use Rattle.std.proofs.lemmas.List.Elements.{All-append, All-cons, All-drop, All-head, All-nil, All-tail, All-take}
pub use Rattle.std.proofs.lemmas.List.FromFn.{get_or-map-range_with_len, length-map-range_with_len}
pub use Rattle.std.proofs.lemmas.List.Sums.{AllPass-from_list_all, fold-append, list_all-from_AllPass, sum_by_more}
pub use Rattle.std.proofs.lemmas.Option.{cond_some, none-some, same_Some}
pub use Rattle.std.specs.List.{AllPass, range_with_len}
pub use Rattle.std.specs.Option.{option_copied, option_or}
pub use Rattle.std.specs.Prelude.{if◌then◌else◌}
pub use Rattle.cvl_base.specs.CheckedSums.{fitting}
pub use Rattle.cvl_base.specs.Elementwise.{values_from}
pub use Rattle.cvl_base.specs.Exact.{exact_sum_of}
pub use Rattle.cvl_base.specs.Faults.{fault_at}
pub use Rattle.cvl_base.specs.Folds.{fold_of, scan_of}
pub use Rattle.cvl_base.specs.Gives.{◌>>=◌, Gives}
pub use Rattle.cvl_base.specs.Integers.{sum_of, wrap}
pub use Rattle.cvl_base.specs.ItemWords.{is_number, is_word}
pub use Rattle.cvl_base.specs.Limits.{most_elements, most_places}
pub use Rattle.cvl_base.specs.declared.fault.FaultNo.TheVariants.{Overflow}
pub use Rattle.fresh.specs.Found.{first_without}
pub use Rattle.fresh.specs.Parts.{part}
pub use Rattle.operators.proofs.ExactFolds.{exact_fold_on, total-is_word}
pub use Rattle.operators.specs.Exact.{total_of}
pub use Rattle.operators.specs.ExactLaws.{exact_laws, InWords, word-in}
pub use Rattle.operators.specs.NumberLaws.{number_words, sum_laws}
pub use Rattle.scan_walks.proofs.Fitted.{none_overflows, overflows, zero_wrapped}
pub use Rattle.scan_walks.proofs.LastStart.{continued_summed}
pub use Rattle.scan_walks.proofs.Valued.{scans_valued, segment_total, sums_valued}
pub use Rattle.scan_walks.proofs.WholeSums.{all_whole, whole_laws}
pub use Rattle.scan_walks.specs.Fronts.{fitting_front}
pub use Rattle.scan_walks.specs.Ranges.{continued, range_between, range_scan_of}
pub use Rattle.tile_plan.specs.Ranges.{range_of, tile_count, Tiling}
pub use Rattle.tile_scans.proofs.Flagged.{cut_range, flat_range, tiled, total_agrees}
pub use Rattle.tile_scans.proofs.RangeScans.{continued_range_scan, continued_slice, range_scan-drop, range_scan-take}
pub use Rattle.tile_scans.proofs.SumsOfTiles.{befores_are, front_is_item, front_passes, IsTiled, length-sums_of, sum_at, sums_pass, tile_passes, tiles_more}
pub use Rattle.tile_scans.proofs.WrittenParts.{IsWrittenPart, more_written, next_is}
pub use Rattle.tile_scans.specs.TiledSums.{flagged, sums_of, tile_of}
pub use Rattle.tile_scans.specs.Written.{befores_of, next_of}
