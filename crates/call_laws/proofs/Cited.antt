-- What the proofs of this crate cite of its specs, of the crates below and of the standard library, passed on from one place. Declares nothing.
pub use mathlib.Core.List.{map-map}
pub use Rattle.std.proofs.Common.{[], if◌then◌else◌, ◌&&◌, ◌*ℤ◌, ◌*◌, ◌++◌, ◌+ℤ◌, ◌+◌, ◌-ℤ◌, ◌-◌, ◌<◌, ◌||◌, ◌∙◌, ◌∷◌, ◌≡◌, ◌≢◌, ◌≤ℤ◌, ◌≤◌, ◌⊎◌, All, ap, append_assoc, arith, Bool, codes, cond}
pub use Rattle.std.proofs.Common.{count_by, drop, drop-drop, drop_at, eqb, eqb-true, Err, false, filter, filter_map, get_or, get_or-set_same, inl, inr, int_eq, is_some, IsTrue, le-leb, leb, length}
pub use Rattle.std.proofs.Common.{length-append, length-drop, length-set, List, ltb, map, map-id, nat_lt, negsuc, None, not, Ok, Option, option_map, pos, position, refl, replicate, Result, rules}
pub use Rattle.std.proofs.Common.{slice_get, slice_set, Some, subst, suc, sym, take, take_at, true, unsigned_abs, unwrap_or, w32, zero, zip, ℕ, ℤ}
pub use Rattle.std.proofs.Math.Seq.{drop-append-add, take-append-add}
pub use Rattle.std.proofs.lemmas.Bool.{both_ways, cases_Bool, cases_lt, cases_order, false_from_ne_true, false≢true, le-ltb, lt-leb, lt-ltb, ltb-false, ltb-true, or_cases, or_parts}
pub use Rattle.std.proofs.lemmas.Bool.{true_from_ne_false}
pub use Rattle.std.proofs.lemmas.Bool.Decides.{Decides-eqb, Decides-int_eq, Decides-like, eqb_tells, nat_tests, same_from_decides}
pub use Rattle.std.proofs.lemmas.Int.{int_wrap-add_left, ints}
pub use Rattle.std.proofs.lemmas.Iterator.Adapters.{option_map_id, position_from-zero}
pub use Rattle.std.proofs.lemmas.List.{append-nil, drop-append-le, get_or-replicate, length-map, length-replicate, length_push, map-append, replicate-append-replicate, same_from_push, same_lists}
pub use Rattle.std.proofs.lemmas.List.{set-append_left, set-append_right, take-append-le, take_all}
pub use Rattle.std.proofs.lemmas.List.Elements.{All-head, All-tail, All-take, filter-append}
pub use Rattle.std.proofs.lemmas.List.FromFn.{fill_by_all, get_or-map-range_with_len, length-enumerate_from, length-map-range_with_len}
pub use Rattle.std.proofs.lemmas.List.Quantifiers.{position-Some}
pub use Rattle.std.proofs.lemmas.List.Sums.{fails_before_first, fold-append, position_or_len_is, sum_by-append, sum_by-cons}
pub use Rattle.std.proofs.lemmas.Map.Keys.{any_passes_from_place, IsDistinct-cons}
pub use Rattle.std.proofs.lemmas.Option.{get_or_from_slice_get, none-some, same_Some, slice_get-get_or, slice_get-map, slice_get_past, slice_get_read, slice_get_within, unwrap_or-slice_get}
pub use Rattle.std.proofs.lemmas.Slice.Zip.{firsts-zip, length-zip, seconds-zip}
pub use Rattle.std.specs.Int.{is_negative}
pub use Rattle.std.specs.List.{AllByRecursion, AllPass, enumerate_from, fold, join_with_byte, list_any, position_from, position_or_len, range_with_len}
pub use Rattle.std.specs.Option.{ok_or}
pub use Rattle.std.specs.Prelude.{◌↔◌, sum}
pub use Rattle.call_laws.specs.Carried.{each_after, seg_reduce_after, seg_scan_after}
pub use Rattle.call_laws.specs.InParts.{descriptor_in_two, in_turn, in_two, replaced_in_two, scans_after}
pub use Rattle.call_laws.specs.Permuted.{AreOnce, AreOnceFlagged, AreWithin, AreWithinFlagged, IsBackPermute, IsDefaultPermute, IsGoodBefore, IsSelectPermute, IsSimplePermute}
pub use Rattle.cvl_base.proofs.Distributes.{as_length-fits, length_within-fits}
pub use Rattle.cvl_base.proofs.Elementwise.{if_as_long-fits, if_as_long-misfits}
pub use Rattle.cvl_base.proofs.Lists.{element, not_found, sum-cons}
pub use Rattle.cvl_base.proofs.Nests.{joined-cut, length-cut, lengths-cut, nest-fits, nest-misfits}
pub use Rattle.cvl_base.proofs.Permutes.{length-all_destinations, length-flagged_destinations}
pub use Rattle.cvl_base.proofs.Segmented.{beside-fits, results-ok}
pub use Rattle.cvl_base.specs.CheckedSums.{checked_reduce_of, checked_scan_of, fitting, totals_of}
pub use Rattle.cvl_base.specs.Distributes.{distribute_of, distribute_within, index_of, index_within}
pub use Rattle.cvl_base.specs.Elementwise.{bools1_of, bools2_of, chosen, compare_of, if_as_long, ints1_of, ints2_of, on_pairs, on_pairs_or, values_from}
pub use Rattle.cvl_base.specs.Exact.{total_of}
pub use Rattle.cvl_base.specs.Extracts.{element_at, extract_of, replace_of, with_element_at}
pub use Rattle.cvl_base.specs.Faults.{fault, fault_at}
pub use Rattle.cvl_base.specs.Folds.{fold_of, scan_of}
pub use Rattle.cvl_base.specs.Gives.{◌>>=◌, after, fault_if, unless}
pub use Rattle.cvl_base.specs.Integers.{not_of, wrap}
pub use Rattle.cvl_base.specs.Limits.{most_elements, most_places}
pub use Rattle.cvl_base.specs.Lists.{joined}
pub use Rattle.cvl_base.specs.Monoid.{MonoidLaws}
pub use Rattle.cvl_base.specs.Nests.{cut_of, IsNest, nest}
pub use Rattle.cvl_base.specs.Packs.{count_of, pack_of}
pub use Rattle.cvl_base.specs.Permutes.{all_destinations, back_of, default_of, destination_if, first_fault, flagged_destinations, is_destination, is_place, select_of, sent_over, sent_to}
pub use Rattle.cvl_base.specs.Permutes.{sent_to_all, simple_of, wrong_at, wrongs}
pub use Rattle.cvl_base.specs.Segmented.{at_segment, beside, end_to_end, in_vector, moved, of_three, of_two, one_each, results_from}
pub use Rattle.cvl_base.specs.SegmentedCalls.{seg_count_of, seg_reduce_of, seg_scan_of}
pub use Rattle.cvl_base.specs.declared.fault.Fault.{Fault}
pub use Rattle.cvl_base.specs.declared.fault.FaultNo.{FaultNo}
pub use Rattle.cvl_base.specs.declared.fault.FaultNo.TheVariants.{BadInput, IndexOutOfRange, IndexRepeated, Overflow}
pub use Rattle.operators.proofs.FoldLaws.{fold_from, fold_of_is_item, fold_of_push, length-scan_of, scan_of-append, scan_of-cons, slice_get-scan_of}
pub use Rattle.permute_walks.proofs.EachSent.{all_take_part, flagged_take_part, takes_part}
pub use Rattle.permute_walks.proofs.LastSent.{lasts_both, lasts_stored, length-last_senders}
pub use Rattle.permute_walks.proofs.Listed.{range_both}
pub use Rattle.permute_walks.specs.Senders.{count_destinations, count_sent, is_between, IsStored, last_senders, written_over}
