-- What the proofs of this crate cite of the crates below and of the standard library, passed on from one place. Declares nothing.
pub use lib.ListN.{get_elem?}
pub use mathlib.Core.Option.{none, some, some-injective, some-ne-none}
pub use Rattle.std.proofs.Common.{[], ⊎_elim, ◌%◌, ◌++◌, ◌+◌, ◌-◌, ◌<◌, ◌^◌, ◌∙◌, ◌∷◌, ◌≡◌, ◌≢◌, ◌≤◌, All, Any, ap, arith, Bool, cond, count_by, eqb, eqb-true, false, get_or, get_or-set_other}
pub use Rattle.std.proofs.Common.{get_or-take, inl, inr, IsTrue, length, length-append, length-set, length-take, length-take-le, List, ltb, ltb-false, ltb-true, map, min, None, Option, refl}
pub use Rattle.std.proofs.Common.{replicate, set, Some, subst, suc, sum_by, sym, take, zero, ℕ}
pub use Rattle.std.proofs.lemmas.Bool.{cases_lt, cond_both, eqb-false}
pub use Rattle.std.proofs.lemmas.List.{get_or-map, get_or_past, length-map, length_push, replicate_more, set-get_or}
pub use Rattle.std.proofs.lemmas.List.Elements.{All-append, All-cons, All-head, All-nil, All-pop, All-push, All-set, All-tail}
pub use Rattle.std.proofs.lemmas.List.Sums.{get_or-le-sum_by, sum_by_push}
pub use Rattle.std.specs.Slots.{slots_counts, slots_items}
pub use Rattle.atomic_table.specs.Table.{Allows, keeps, Me, State, step}
pub use Rattle.status_word.proofs.Places.{element_at, one_alone, others_none, read_at, set_else, set_here}
pub use Rattle.status_word.specs.Hands.{AreDealt, hand_done, hand_given, hands_joined, IsWhole, times}
pub use Rattle.status_word.specs.RuleSteps.{ClaimDeals, DoneDeals, FewClaims, FirstDeals, JoinDeals, SameDeals, SplitDeals, WholeDeals}
pub use Rattle.status_word.specs.declared.pass.Hand.{Hand}
