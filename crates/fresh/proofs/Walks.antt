-- What the walks over raw memory cite of paths and numbers, of the logic and its steps, and of the shapes of values and contracts.
pub use mathlib.Core.Path.{◌≡◌, refl, sym, subst, ◌∙◌, ap}
pub use mathlib.Core.Bool.{Bool, true, false, not}
pub use Prim.Native.Nat.{ℕ, ◌+◌, ◌*◌, ◌<◌, ◌^◌, ◌-◌, ◌≤◌, zero, suc}
pub use native.Mathlib.Omega.{arith}
pub use native.Mathlib.Nat.{zero-mul, suc-mul}
pub use mathlib.Core.List.{List, [], ◌∷◌, ◌++◌, map}
pub use lib.ListN.{length, replicate, length-replicate, length-map, get_or, get_or-replicate, length-append, take, length-take, length-drop, set, length-set, take-append-drop}
pub use mir.Syntax.{Fn, w64, ty_array, Ty}
pub use mir.MapTy.{inst_fn}
pub use mir.Val.{Val, WT, vint, vptr, vunit, vstruct, of_list, has_ty, vcons, vnil}
pub use base.Logic.{SProp, ent, emp, id⊢, never, sep, ex, guard, mono_r}
pub use base.Fml.{Lft, Share, ftrue, flft, fat, Fml, fsep, froom}
pub use prog.Wp.{WpFn, Env, Tables}
pub use contract.BorrowLft.{◌⊑◌}
pub use contract.Monad.{fact, Fun, fact_i}
pub use contract.Running.{tables}
unfoldable pub use contract.Running.{tables_of}
pub use sound.WpLaws.{FmC, WpFn-mono}
pub use types.Kit.{‵, raw, ◌⊛◌, given, later, at_ret, ◌$◌, ◌∵◌, !, qed, move, keep, drop, use0, use1, use2, split, join, rewrite, fsplit, fjoin, learn, await, flt_i, suffices}
pub use types.Kit.{done, some, split3, pick, feq_l, flt_l, use3, fsplit3, fjoin3, feq_i, Item, by, frame, Goal, Seq, fpick, check, show, updating, now, Step, step, fpack}
pub use types.Part.{agg, sub, whole, look_in, store_in}
pub use types.Run.{look, stop, fld, of_opd, and_then, no_more, first, blocks, exec, returns, enter, load, addr, lit, assigns, assigns_last, unit_lit, init, bin, size_lit}
pub use types.ByLocal.{alloc_all, pass_all, free_all, look_at, get, get_in, sets, lands_last, is, env, through, sets_last, take_at, give_at}
pub use denote.Exit.{no, yes}
pub use denote.Param.{layout, param}
pub use denote.RattleType.{owns, RattleType, Valss}
pub use denote.RawPtr.{Ptr, block_ptr, in_a_block, ptr_val, RawPtr, in_block}
pub use denote.Signature.{plain, types_at}
pub use denote.Steps.{heard, nothing, opens, closes, only, peeks}
pub use denote.Struct.Tuple.{Tuple, tuple_type}
pub use denote.Triple.Call.{calls_at_last}
pub use denote.Triple.Clauses.{Ended, closing}
pub use denote.Triple.Spec.{triple_of}
pub use denote.Triple.Table.{framed}
pub use Rattle.std.proofs.raw_atomic.Walks.{proved_at}
pub use denote.Triple.Walked.{Stays, stay_dropped, walk_of, ends_at, Goes-dropped, walk_Meets, stay_ref, Goes-ref, says}
pub use Rattle.std.specs.Prelude.{None, Option, Some}
pub use Rattle.core.specs.Mem.Slots.{slots_items, slots_filled, slots_len, slots_counts, IsFull, slots_ptr}
pub use Rattle.core.proofs.atomic.Steps.{tail}
pub use Rattle.core.proofs.mem.Facts.{says_two, says_three}
pub use Rattle.core.proofs.mem.Param.{El, R, args, el_x, elτ}
pub use Rattle.core.proofs.slots.Opens.{row_val, Sr, words_val, row_had, row_made}
pub use Rattle.std_alloc.proofs.RcSteps.{Good, word, word-Good}
pub use denote.Builtin.{usize}
pub use Rattle.core.proofs.alloc.Calls.{Goes-blank, token}
pub use lib.Dec.{lit<, T}
pub use seplogic.Ra.Ura.{Ura}
pub use prog.Memory.{Memory}
pub use prog.Routine.{Routine}
pub use types.Logic.{Logic, sem}
pub use Rattle.std_alloc.specs.Vec.Ownership.{owns_if, has_block}
pub use Rattle.std_alloc.proofs.VecSteps.Opens.{not_live, vec_opens⁰, vec_closes⁰, Blk}
pub use Rattle.std_alloc.proofs.VecSteps.Shapes.{after}
pub use Rattle.core.proofs.ptr.Rows.{add_times, times_below, one_below}
pub use base.Fraction.{full_share}
pub use denote.Memory.{part_at}
pub use Rattle.std_alloc.proofs.RawLayout.{as_written, as_raw}
pub use denote.Index.{row}
