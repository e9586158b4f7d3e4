use Rattle.std.proofs.Common.{◌≡◌, map, take}
use Rattle.explanations.proofs.call_faults.names_bound.Given as goal

abbrev pub invariant-loop-binding : goal.invariant-loop-binding
invariant-loop-binding g l =
    map (λ name. name.now) l.names.items ≡ map (λ binding. binding.name) (take l.binding-index l.bindings)
