-- What the proofs of this crate cite of its specs, of the crates below and of the standard library, passed on from one place. Declares nothing.
pub use denote.Param.Laws.{Laws, param_laws}
pub use denote.Param.Send.{AllSend, Frees, IsSend, IsSync, owning_send, part_keyless, sendable, struct_send, struct_sync}
pub use denote.Param.Shared.{copy_shared}
pub use denote.RattleType.{RattleType}
pub use denote.RawPtr.{block_ptr, null_ptr, Ptr, RawPtr}
pub use denote.SharingLaws.{nothing_shr_laws}
pub use denote.Struct.Laws.{field_copy}
pub use denote.Struct.Lending.{Lends-nothing, of_Lends}
pub use denote.Struct.Owning.{fields, shape, to}
pub use denote.Struct.Struct.{exits_of, Shape, Struct, within}
pub use Rattle.std.proofs.Common.{[], ◌*◌, ◌++◌, ◌+◌, ◌-◌, ◌<◌, ◌^◌, ◌∙◌, ◌∷◌, ◌≡◌, ◌≤◌, ◌⊎◌, ap, append-nil, append_assoc, arith, drop, drop-drop, flat_map, get_or, inl, inr, length, length-append}
pub use Rattle.std.proofs.Common.{length-take, List, map, min, None, Option, refl, replicate, rules, slice_set, Some, subst, suc, sum, sym, take, take-add, take-append-drop, take-take, take_all}
pub use Rattle.std.proofs.Common.{zero, zip, ℕ}
pub use Rattle.std.proofs.lemmas.Grind.{common_steps, flat_map-append}
pub use Rattle.std.proofs.lemmas.List.{drop-map, drop-replicate, length-map, length-replicate, nil_from_length, replicate-append-replicate, take-map, take-replicate, take_more}
pub use Rattle.std.proofs.lemmas.Slice.Zip.{all_zipped_more, get_or-zip, length-zip}
pub use Rattle.std.specs.List.{AllZip}
pub use Rattle.std.specs.Mem.{type_size}
pub use Rattle.std.specs.Option.{option_or}
pub use Rattle.std_alloc.proofs.VecSteps.El.{args, El, el_d, el_x, elτ, Hd, P, R, sz, Vr}
pub use Rattle.core.specs.declared.alloc.Allocator.{Ghosts}
pub use Rattle.fresh.specs.Ownership.{cells_own, deed_owns, slot, slots}
pub use Rattle.fresh.specs.Parts.{part}
pub use Rattle.fresh.specs.Places.{filled, Follows, GoWith, IsAllOf, IsRun, Site, somes, stretch, Stretch, with_items}
