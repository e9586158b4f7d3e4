-- What the proofs of this crate cite of the crates below and of the standard library, passed on from one place. Declares nothing.
pub use lib.Lanes.{digits_l, Each1, mask_l, number_l, top, zip2}
pub use Rattle.std.proofs.Common.{[], if◌then◌else◌, ◌%◌, ◌*◌, ◌++◌, ◌+◌, ◌-◌, ◌/◌, ◌<ℤ◌, ◌<◌, ◌==◌, ◌^◌, ◌∙◌, ◌∷◌, ◌≡◌, ◌≤ℤ◌, ◌≤◌, ◌⊎◌, ap, append-nil, arith, bit_and, Bool, cond, drop, Err, false}
pub use Rattle.std.proofs.Common.{filter, Fits, FitsSigned, get_or, get_or-take, inl, inr, length, length-take-le, List, ltb-false, map, nat_le, nat_lt, neg_ℤ, None, not, of_z, Ok, ok_or, Option}
pub use Rattle.std.proofs.Common.{option_and_then, option_map, pos, position, pow-add, refl, replicate, Result, rules, Some, subst, suc, sym, take, take-append-drop, take-take, take_all, take_while}
pub use Rattle.std.proofs.Common.{to_z, true, w32, w8, zero, ℕ, ℤ}
pub use Rattle.std.proofs.lemmas.Bool.{agree_below_at, and_parts, false≢true}
pub use Rattle.std.proofs.lemmas.Bool.Decides.{nat_tests}
pub use Rattle.std.proofs.lemmas.Int.Digits.{digits_value_is, digits_value_more, number_lt, number_more}
pub use Rattle.std.proofs.lemmas.List.Sums.{AllPass-from_list_all, list_all-from_AllPass, prefix_len-drop_yes, prefix_len_is, prefix_len_passes, prefix_len_stops, take_while-cons}
pub use Rattle.std.proofs.lemmas.Simd.{below_from_Fits, Each1-get_or, leading_from_mask_l, mask_l-mod, tops_compared, trailing_mask_l, zip2_splat, zip2_splat_left}
pub use Rattle.std.specs.Char.{digit_value, is_ascii_digit}
pub use Rattle.std.specs.Int.Digits.{AllBelowBase, number_from_digits}
pub use Rattle.std.specs.List.{before_first, concat, list_all, position_or_len, prefix_len}
pub use Rattle.std.specs.Str.Parse.{digits_value, digits_value_after}
