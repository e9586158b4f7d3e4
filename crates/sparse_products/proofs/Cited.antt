-- What the proofs of this crate cite of its specs, of the crates below and of the standard library, passed on from one place. Declares nothing.
pub use Rattle.std.proofs.Common.{[], if◌then◌else◌, ◌&&◌, ◌*ℤ◌, ◌*◌, ◌++◌, ◌+ℤ◌, ◌+◌, ◌-ℤ◌, ◌-◌, ◌<ℤ◌, ◌<◌, ◌∙◌, ◌∷◌, ◌≡◌, ◌≢◌, ◌≤ℤ◌, ◌≤◌, ap, append-nil, append_assoc, arith, Bool, cond, drop}
pub use Rattle.std.proofs.Common.{drop-drop, Err, false, fold, get_or, get_or-set_other, IfSome, inl, inr, le-ltb, length, length-append, length-drop, List, lt-ltb, map, nat_lt, negsuc, None, of_z}
pub use Rattle.std.proofs.Common.{Ok, ok_or, Option, option_map, pos, position, refl, Result, rules, Some, subst, sum, sym, take, take-add, take-append-drop, take_all, to_z, true}
pub use Rattle.std.proofs.Common.{unsigned_abs, unwrap_or, vec_capacity, vec_len, w32, zip, ℕ, ℤ}
pub use Rattle.std.proofs.Math.ListN.{length-set, set}
pub use Rattle.std.proofs.lemmas.Bool.Decides.{leb_tells, nat_tests}
pub use Rattle.std.proofs.lemmas.Int.{int_wrap-add_left, int_wrap-add_right, int_wrap-sub_right, ints, to_z-of_z}
pub use Rattle.std.proofs.lemmas.List.{drop_all, drop_more, get_or_append_left, length-map, map-append, nil_from_length, take_more}
pub use Rattle.std.proofs.lemmas.List.Sums.{fold-append, position_or_len_is, sum_by-take-drop, sum_by-take-le}
pub use Rattle.std.proofs.lemmas.Option.{none-some, same_Some, slice_get_cases}
pub use Rattle.std.proofs.lemmas.Slice.Zip.{get_or-zip, length-zip}
pub use Rattle.std.specs.Int.{is_negative, w128}
pub use Rattle.std.specs.List.{list_all, position_or_len}
pub use Rattle.std.specs.Option.{option_or}
pub use Rattle.cvl_base.proofs.Lists.{sum-cons}
pub use Rattle.cvl_base.proofs.Nests.{length-cut, nest-fits, nest-misfits}
pub use Rattle.cvl_base.specs.CheckedSums.{fitting}
pub use Rattle.cvl_base.specs.Extracts.{element_at}
pub use Rattle.cvl_base.specs.Faults.{fault, fault_at}
pub use Rattle.cvl_base.specs.Gives.{◌>>=◌, Gives, unless}
pub use Rattle.cvl_base.specs.Integers.{wrap}
pub use Rattle.cvl_base.specs.Limits.{most_places}
pub use Rattle.cvl_base.specs.Nests.{cut_of, nest}
pub use Rattle.cvl_base.specs.Permutes.{is_place}
pub use Rattle.fresh.proofs.Zips.{zip_drop, zip_take}
pub use Rattle.fresh.specs.Found.{first_without}
pub use Rattle.fresh.specs.Parts.{length_part, part}
pub use Rattle.fresh.specs.Places.{stretch, Stretch, with_items}
pub use Rattle.permute_walks.specs.Indices.{first_outside, outside}
pub use Rattle.range_walks.proofs.Segments.{cut_more, cut_parted, length_here, range_left, range_lengths, range_read, read_at}
pub use Rattle.range_walks.proofs.Written.{written_more}
pub use Rattle.segdes.specs.Starts.{start_of}
pub use Rattle.sparse_products.specs.Answers.{lengths_after, none_negative, rows_product, rows_within}
pub use Rattle.sparse_products.specs.EntrySums.{AreSums, between}
pub use Rattle.sparse_products.specs.Products.{at_column, row_product, row_total, term}
pub use Rattle.sparse_products.specs.Rows.{are_within, product_by, row_item, row_value, wrapping}
