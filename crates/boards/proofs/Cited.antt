-- What the proofs of this crate cite of the crates below and of the standard library, passed on from one place. Declares nothing.
pub use lib.ListN.{get_elem?}
pub use mathlib.Core.Option.{none, some}
pub use Rattle.std.proofs.Common.{[], ⊎_elim, ◌++◌, ◌+◌, ◌-◌, ◌<◌, ◌∙◌, ◌∷◌, ◌≡◌, ◌≢◌, ◌≤◌, ◌⊎◌, All, ap, arith, Bool, cond, eq-eqb, eqb, false, get_or, get_or-set_other, inl, inr, IsTrue, length}
pub use Rattle.std.proofs.Common.{length-set, List, max, min, ne_eqb, refl, replicate, set, Some, subst, suc, sym, ℕ}
pub use Rattle.atomic_table.specs.Table.{Allows, keeps, State, step}
pub use Rattle.cvl_base.specs.SegmentMonoid.{is_seg_item, seg_join}
pub use Rattle.cvl_base.specs.TileSums.{before_tile, between_tiles, own_sum, SumsLaws}
pub use Rattle.least_boards.proofs.Claiming.{AllowsClaims, claim_allowed}
pub use Rattle.least_boards.proofs.Dealing.{hands_first, hands_more}
pub use Rattle.least_boards.specs.Joined.{IsSeatPass}
pub use Rattle.least_boards.specs.Seats.{Seated}
pub use Rattle.status_word.proofs.Places.{highest_push, read_at}
pub use Rattle.status_word.specs.Codings.{code, CodeLaws, Coding, coding_of, told_of}
pub use Rattle.status_word.specs.Passes.{first_pass, highest, highest_mark, IsRuleKept, known_at, looked, new_pass, passes_joined, seen_at, told_at, told_state}
pub use Rattle.status_word.specs.RuleSteps.{AreRaised, AreSame, Ascends, ClaimKeeps, DoneKeeps, FewClaimed, JoinAdds, LookKeeps, TellKeeps, WholeKnows}
pub use Rattle.status_word.specs.Words.{state_of}
pub use Rattle.status_word.specs.declared.pass.Pass.{Pass}
pub use Rattle.status_word.specs.declared.status.Status.TheVariants.{Prefix, Sum}
