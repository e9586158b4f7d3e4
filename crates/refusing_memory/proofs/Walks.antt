-- What the walks through the allocator's two calls share: the names that they cite, their type arguments and the allocator itself.
pub use Rattle.std.proofs.Common.{◌≡◌, ℕ, ◌+◌, ◌^◌, ◌<◌, Bool, true, false, List, [], ◌∷◌, Ok, Err, refl, w64, Bor, ap}
pub use seplogic.Ra.Ura.{Ura}
pub use mir.Syntax.{Ty, Args, Fn, a_type, dnil, dcons}
pub use mir.Val.{Val, vbool, vint, vptr, vunit}
pub use mir.MapTy.{inst_fn}
pub use base.Logic.{SProp, ent, id⊢, never_e, ex, sep, guard}
pub use base.Fml.{Lft, Share, ftrue, flft, ffalse, fsep, froom}
pub use prog.Memory.{Memory, size, align, capped, up}
pub use prog.Routine.{Routine}
pub use prog.Wp.{WpFn, Tables}
pub use types.Logic.{Logic, sem}
pub use contract.BorrowLft.{◌⊑◌, ⊑_trans}
pub use contract.Monad.{Fun, fact}
pub use contract.Running.{tables}
unfoldable pub use contract.Running.{tables_of}
pub use sound.WpLaws.{fm_of, WpFn-mono}
pub use types.Run.{stop, fld, addr, lit, no_more, and_then, first, branches, skips, exec, returns, returns_within, enter, of_opd, unit_lit}
pub use denote.Exit.{yes}
pub use denote.RattleType.{owns, RattleType}
pub use denote.Ref.{shr_vals}
pub use denote.Opens.{unhide}
pub use denote.Param.{bounded, param}
pub use denote.Plain.{uint_vals, uint_Tells}
pub use denote.Signature.{Slot, plain, types_at}
pub use denote.Steps.{heard, nothing, only}
pub use denote.Triple.Clauses.{Ended, Clauses}
pub use denote.Triple.Spec.{triple_of}
pub use denote.Triple.Statement.{Triple, Contract}
pub use denote.Triple.Table.{entered, cited}
pub use denote.Triple.Walked.{Stays, stay_dropped, walk_of, ends_at, walked, Goes-dropped, walk_Meets}
pub use types.Kit.{‵, raw, ◌⊛◌, some, later, given, learn, at_ret, pick, ◌$◌, ◌∵◌, !, qed, move, keep, use0, use1, use2, split, join, fsplit, fjoin, suffices, await, done, Item, by, split3, feq_i}
pub use types.Kit.{show, feq_l, flt_i, check, updating}
pub use types.ByLocal.{alloc_all, pass_all, free_all, look_at, get, through, sets, lands_as, env}
pub use denote.RawPtr.{block_ptr, Ptr, null_ptr, ptr_val, rawptr_vals, rawptr_Tells}
pub use denote.Builtin.{usize, RefOf, RawPtr, bool, unit}
pub use denote.Triple.Call.{calls_at}
pub use Rattle.std.proofs.alloc.Calls.{Al, α, seen}
use Rattle.refusing_memory.specs.contracts.Refusing as wrapper

module _ (Z : Al) where
  abbrev pub args : Args
  args = bounded (a_type ∷ []) (Z.row, tt) (dcons Z.d (dcons Z.drops dnil))

  abbrev pub self : Slot 2
  self = RefOf (0 ∷ []) tt (plain (λ _. wrapper.the_row (param 0 Z.row))) (λ _. tt)
