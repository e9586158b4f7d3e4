-- What the proofs of this crate cite of the crates below and of the standard library, passed on from one place. Declares nothing.
pub use borrow.Rule.Slice.PartMut.{put_mid, same_len_mid}
pub use Rattle.std.proofs.Common.{[], ◌*◌, ◌++◌, ◌+ℤ◌, ◌+◌, ◌-◌, ◌<◌, ◌∙◌, ◌∷◌, ◌≡◌, ◌≢◌, ◌≤◌, All, ap, append-nil, append_assoc, arith, Bool, cond, count_by, drop, drop-drop, Err, false, filter}
pub use Rattle.std.proofs.Common.{FitsSigned}
pub use Rattle.std.proofs.Common.{get_or, IsTrue, leb, length, length-append, length-drop, length-take-le, List, ltb, map, negsuc, None, Ok, Option, pos, refl, replicate, Result, rules, set}
pub use Rattle.std.proofs.Common.{Some, subst, suc, sum, sym, take, take_all, take-append-drop, true, w32, zero, zip, ℕ, ℤ}
pub use Rattle.std.proofs.lemmas.Bool.{and_from, and_left, and_right, le-leb, le-ltb, lt-leb, lt-ltb}
pub use Rattle.std.proofs.lemmas.Bool.Decides.{Decides-int_eq}
pub use Rattle.std.proofs.lemmas.Int.{int_wrap_fits, ints}
pub use Rattle.std.proofs.lemmas.List.{drop_all, drop_more, drop-map, drop-replicate, get_or-map, length-map, length-replicate, take-map, take-replicate, take-set, take_more_set}
pub use Rattle.std.proofs.lemmas.List.Elements.{All-append, All-drop, All-get_or, All-set, All-take}
pub use Rattle.std.proofs.lemmas.List.FromFn.{length-enumerate_from, length-range_with_len}
pub use Rattle.std.proofs.lemmas.List.Sums.{count_by-le-length, length-filter, list_all-from_AllPass, sum_by-cons, sum_by-drop_more}
pub use Rattle.std.proofs.lemmas.Option.{get_or_from_slice_get}
pub use Rattle.std.specs.List.{AllPass, enumerate_from, range_with_len}
pub use Rattle.std.specs.Option.{option_or}
pub use Rattle.cvl_base.specs.Faults.{fault}
pub use Rattle.cvl_base.specs.Folds.{fold_of}
pub use Rattle.cvl_base.specs.Gives.{◌>>=◌, unless}
pub use Rattle.cvl_base.specs.Integers.{sum_of}
pub use Rattle.cvl_base.specs.Limits.{most_places}
pub use Rattle.cvl_base.specs.declared.fault.Fault.{Fault}
pub use Rattle.cvl_base.specs.declared.fault.FaultNo.TheVariants.{LengthMismatch}
pub use Rattle.permute_walks.specs.Indices.{first_outside, outside}
pub use Rattle.permute_walks.specs.Senders.{is_between}
pub use Rattle.permute_walks.proofs.Sent.{other_place, told_again}
pub use Rattle.combining_permutes.specs.CombiningPermutes.{combine_of, combined, names, place_counts, place_counts_of, seg_combine_of, seg_place_counts_of, sent_there}
pub use Rattle.combining_permutes.specs.Walks.{combined_by, outside_by, those_between}
