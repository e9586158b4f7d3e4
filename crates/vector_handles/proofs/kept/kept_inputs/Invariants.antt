use Rattle.std.proofs.Common.{◌≡◌, ◌++◌}
use Rattle.vector_handles.proofs.kept.kept_inputs.Given as goal

-- the inputs so far, and those that are left
abbrev pub invariant-loop-input : goal.invariant-loop-input
invariant-loop-input g l = l.kept.items ++ l.input-iterator.rest.items ≡ l.fn.inputs.items
