-- What the proofs of this crate cite of its specs, of the crates below and of the standard library, passed on from one place. Declares nothing.
pub use Rattle.std.proofs.Common.{[], if◌then◌else◌, ◌&&◌, ◌*◌, ◌++◌, ◌+◌, ◌-◌, ◌<◌, ◌==◌, ◌^◌, ◌||◌, ◌∙◌, ◌∷◌, ◌≡◌, ◌≤◌, ap, append-nil, append_assoc, arith, Bool, codes, cond, count_by, decimal}
pub use Rattle.std.proofs.Common.{drop, Err, false, FitsSigned, flat_map, get_or, get_or-take, IfOk, IfSome, length, length-append, List, map, min, nat_eq, nat_lt, negsuc, None, not, of_z, Ok}
pub use Rattle.std.proofs.Common.{Option, pos, refl, Result, rules, Some, subst, suc, sum, sym, take, take-append-drop, take_all, to_z, true, unsigned_abs, vec_capacity, vec_len, w32, ℕ, ℤ}
pub use Rattle.std.proofs.lemmas.Bool.{and_parts, cases_Bool}
pub use Rattle.std.proofs.lemmas.Bool.Decides.{nat_tests}
pub use Rattle.std.proofs.lemmas.Int.{to_z-of_z}
pub use Rattle.std.proofs.lemmas.List.{at_drop_more, drop_all, flat_map_more, length-map, map-append, map_push}
pub use Rattle.std.proofs.lemmas.List.Sums.{count_by-le-length, sum_by-append, sum_by-cons}
pub use Rattle.std.specs.Char.{digit_value, is_ascii_digit}
pub use Rattle.std.specs.Fmt.{signed_decimal}
pub use Rattle.std.specs.Int.{from_bool}
pub use Rattle.std.specs.List.{join_with_byte, list_all}
pub use Rattle.std.specs.Option.{option_or}
pub use Rattle.call_reader.specs.Inputs.{input_class, input_of, is_white_space}
pub use Rattle.call_reader.specs.NestedReads.{AreListsRead, ArePushed, begin_with, HasRoom, is_closing, is_no_mark, is_number, IsFaultAt, IsNestRead}
pub use Rattle.call_reader.specs.NestedTexts.{are_too_many, before, behind, between, closing, flat_nest, inside, is_no_bracket, is_opening, IsNestedText, IsWithin32, list_marks, lists_from, Mark}
pub use Rattle.call_reader.specs.NestedTexts.{mark_of, marks_of, nest_marks, nested_class, nested_of, number, number_or, opening, read_again, stray, Where, with_number}
pub use Rattle.call_reader.specs.Pieces.{goes_on, numbers_of, or_zero}
pub use Rattle.cvl_base.proofs.Nests.{joined-cut, length-cut, lengths-cut, nest-fits}
pub use Rattle.cvl_base.specs.Elementwise.{values_from}
pub use Rattle.cvl_base.specs.Faults.{fault, fault_at}
pub use Rattle.cvl_base.specs.Gives.{◌>>=◌, after, fault_if}
pub use Rattle.cvl_base.specs.Limits.{most_elements}
pub use Rattle.cvl_base.specs.Nests.{cut_of}
pub use Rattle.cvl_base.specs.declared.fault.Fault.{Fault}
pub use Rattle.cvl_base.specs.declared.fault.FaultNo.TheVariants.{BadInput, TooLong}
pub use Rattle.fresh.specs.Found.{first_without}
pub use Rattle.line_reader.proofs.NumberWalk.{fit, magnitude_digits, sign_read}
pub use Rattle.line_reader.proofs.TokenWalk.{cut_at_blank, cut_at_lone, cut_before, run_first, some_tokens}
pub use Rattle.line_reader.specs.Numbers.{negative_of, positive_of, with_sign, written_number}
pub use Rattle.line_reader.specs.Tokens.{begins_in_token, is_in_token, IsFirstToken, tokens_by, with_byte}
pub use Rattle.line_reader.specs.declared.token.ByteClass.{ByteClass}
pub use Rattle.line_reader.specs.declared.token.ByteClass.TheVariants.{Blank, InToken}
