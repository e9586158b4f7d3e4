-- What the proofs of this crate cite of the crates below and of the standard library, passed on from one place. Declares nothing.
pub use lib.ListN.{get_elem?}
pub use mathlib.Core.Option.{some, some-injective, some-ne-none}
pub use Rattle.std.proofs.Common.{[], ⊎_elim, ◌*◌, ◌++◌, ◌+◌, ◌-◌, ◌<◌, ◌^◌, ◌∙◌, ◌∷◌, ◌≡◌, ◌≢◌, ◌≤◌, All, ap, arith, Bool, cond, drop, eqb, eqb-true, false, get_or, get_or-set_other}
pub use Rattle.std.proofs.Common.{get_or-set_same, IsTrue, length, length-append, length-set, List, ltb, ltb-false, ltb-true, max, min, None, Option, refl, replicate, rules, set, Some, subst, suc}
pub use Rattle.std.proofs.Common.{sum_by, sym, take, true, zero, ℕ, ℤ}
pub use Rattle.std.proofs.lemmas.Bool.{cases_lt, cond_both, eqb-false}
pub use Rattle.std.proofs.lemmas.Bool.Decides.{eqb_tells, nat_tests}
pub use Rattle.std.proofs.lemmas.Grind.{get_or-set_at, in_remove}
pub use Rattle.std.proofs.lemmas.List.{drop_all, drop_more, get_or-replicate, get_or_read, length-replicate}
pub use Rattle.std.proofs.lemmas.List.Elements.{All-from_get_or, All-head, All-nil, All-push, All-replicate, All-set, All-tail}
pub use Rattle.std.proofs.lemmas.List.Folds.{sum_by-replicate}
pub use Rattle.std.proofs.lemmas.List.Sums.{get_or-le-sum_by, sum_by-cons, sum_by-le, sum_by-remove, sum_by-set, sum_by_push}
pub use Rattle.std.specs.List.{AllPass}
pub use Rattle.cvl_base.specs.SegmentMonoid.{is_seg_item, seg_join, seg_unit}
pub use Rattle.cvl_base.specs.TileSums.{before_tile, between_tiles, own_sum, SumsLaws}
