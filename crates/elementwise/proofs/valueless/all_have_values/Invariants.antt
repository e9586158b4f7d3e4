use Rattle.elementwise.proofs.Cited.{◌≡◌, ◌<◌, ◌≤◌, ℕ, IsTrue, None, slice_index_or}
use Rattle.elementwise.specs.Valueless.{slots_without}
use Rattle.elementwise.proofs.valueless.all_have_values.Given as goal

abbrev pub invariant-loop-place : goal.invariant-loop-place
invariant-loop-place g l =
    IsTrue l.clear → (k : ℕ) → l.from ≤ k → k < l.place → slice_index_or (slots_without g.O.PartialBinary.value l.first l.second) k None ≡ None
