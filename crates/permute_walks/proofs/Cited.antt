-- What the proofs of this crate cite of its specs, of the crates below and of the standard library, passed on from one place. Declares nothing.
pub use Rattle.std.proofs.Common.{[], if◌then◌else◌, ◌%◌, ◌*◌, ◌++◌, ◌+◌, ◌-◌, ◌/◌, ◌<◌, ◌==◌, ◌^◌, ◌∙◌, ◌∷◌, ◌≡◌, ◌≢◌, ◌≤◌, All, ap, append-nil, append_assoc, arith, bit_or, Bool, cond, count_ones}
pub use Rattle.std.proofs.Common.{drop, drop-set-lt, drop_at, eq-eqb, eqb, eqb-true, Err, ext_get_or, false, filter, filter_map, find, Fits, FitsSigned, get_or, get_or-set_other, get_or-set_same}
pub use Rattle.std.proofs.Common.{IfSome, inl, inr, is_some, IsErrAnd, le-leb, le-ltb, length, length-append, length-drop, length-set, length-take, length-take-le, List, lt-ltb, ltb, ltb-true, map}
pub use Rattle.std.proofs.Common.{map-id, nat_abs, ne_eqb, negsuc, None, not, of_z, Ok, ok_or, Option, option_map, pos, refl, replicate, Result, rules, set, slice_get, Some, subst, suc, sum, sum_by}
pub use Rattle.std.proofs.Common.{sym, T, take, take-append-drop, take_all, take_at, to_z, true, unwrap_or, w32, w64, zero, zip, ℕ, ℤ}
pub use Rattle.std.proofs.lemmas.Bool.{cases_eq, cases_lt, false≢true}
pub use Rattle.std.proofs.lemmas.Bool.Decides.{Decides-int_eq, eqb_tells, nat_tests}
pub use Rattle.std.proofs.lemmas.Grind.{common_steps}
pub use Rattle.std.proofs.lemmas.Int.{ints, to_z-of_z}
pub use Rattle.std.proofs.lemmas.List.{at_drop_more, drop-replicate, drop-set-add, drop_all, drop_more, get_or-map, length-map, length-replicate, map-append, map-set, take-replicate, take-set}
pub use Rattle.std.proofs.lemmas.List.{take-set-le, take_more, take_more_set}
pub use Rattle.std.proofs.lemmas.List.Elements.{All-cons, All-drop, All-from_get_or, All-get_or, All-head, All-nil, All-tail, All-take, All-weaker, filter_map-append}
pub use Rattle.std.proofs.lemmas.List.FromFn.{filter_of_map_range_with_len_more, get_or-map-range_with_len, length-map-range_with_len}
pub use Rattle.std.proofs.lemmas.List.Sums.{count_by-le-length, count_by_more_no, count_by_more_yes, sum_by-append, sum_by-cons, sum_by-set, sum_by-take-drop, sum_by_more}
pub use Rattle.std.proofs.lemmas.Option.{cond_some, none-some, slice_get-get_or, slice_get_cases, slice_get_past, slice_get_read}
pub use Rattle.std.specs.List.{cons_option, enumerate_from, range_with_len}
pub use Rattle.std.specs.Option.{option_or}
pub use Rattle.cvl_base.proofs.Lists.{element}
pub use Rattle.cvl_base.specs.Elementwise.{values_from}
pub use Rattle.cvl_base.specs.Extracts.{element_at}
pub use Rattle.cvl_base.specs.Faults.{fault, fault_at}
pub use Rattle.cvl_base.specs.Gives.{◌>>=◌, Gives, unless}
pub use Rattle.cvl_base.specs.Limits.{most_places}
pub use Rattle.cvl_base.specs.Packs.{count_of}
pub use Rattle.cvl_base.specs.Permutes.{all_destinations, first_fault, flagged_destinations, is_destination, is_place, place_among, sent_to, wrongs}
pub use Rattle.cvl_base.specs.declared.fault.Fault.{Fault}
pub use Rattle.cvl_base.specs.declared.fault.FaultNo.{FaultNo}
pub use Rattle.cvl_base.specs.declared.fault.FaultNo.TheVariants.{IndexOutOfRange, LengthMismatch}
pub use Rattle.fresh.proofs.FirstWithout.{first_of_both, found_within}
pub use Rattle.fresh.specs.Found.{first_without}
pub use Rattle.fresh.specs.Parts.{part}
pub use Rattle.fresh.specs.Places.{somes, stretch, Stretch, with_items}
pub use Rattle.permute_walks.specs.Before.{copies_of_first, IsPermuted, MayStand, values_of, written_of}
pub use Rattle.permute_walks.specs.Indices.{AreInside, count_outside, each_or, elements_at, first_outside, outside}
pub use Rattle.permute_walks.specs.Marks.{mark_words, words_for, words_of}
pub use Rattle.permute_walks.specs.Senders.{count_destinations, count_sent, elements_or, is_between, IsStored, IsWrittenTo, last_sender_from, last_senders, nobody, places_between, sender_from}
pub use Rattle.permute_walks.specs.Senders.{senders_of, sent_marks, written_over}
pub use Rattle.permute_walks.specs.declared.before.Before.{Before}
pub use Rattle.sent_places.proofs.Sent.{length-senders_of, nobody_sent, other_place, sender_at}
pub use Rattle.sent_places.proofs.Stored.{index_is, inside_where_right, is_sent, IsStoredTo, right_now, stored_all, stored_more, stored_none, stored_outside, stored_skip}
