-- What the proofs of this crate cite of the crates below and of the standard library, passed on from one place. Declares nothing.
pub use Rattle.std.proofs.Common.{[], ◌+ℤ◌, ◌+◌, ◌<◌, ◌∙◌, ◌∷◌, ◌≡◌, ◌≤◌, ap, arith, Bool, cond, count_by, count_ones, eq-eqb, Err, false, IfSome, le-ltb, length, List, ltb-false, map, nat_lt, None}
pub use Rattle.std.proofs.Common.{Ok, Option, pos, refl, replicate, Result, rules, Some, subst, sum_by, sym, take_all, true, unwrap_or, w32, w64, ℕ, ℤ}
pub use Rattle.cvl_base.proofs.Permutes.{length-all_destinations, length-flagged_destinations}
pub use Rattle.cvl_base.specs.CheckedSums.{fitting}
pub use Rattle.cvl_base.specs.Faults.{fault, fault_at}
pub use Rattle.cvl_base.specs.Limits.{most_places}
pub use Rattle.cvl_base.specs.declared.fault.FaultNo.TheVariants.{BadInput, Overflow, TooLong}
pub use Rattle.permute_walks.specs.Marks.{words_for}
pub use Rattle.permute_walks.specs.Senders.{is_between, last_senders, sent_marks}
