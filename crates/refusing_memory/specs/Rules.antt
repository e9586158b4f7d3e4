-- The rule by which an allocator refuses.
-- Source: this library's own test allocator.
use Rattle.refusing_memory.specs.declared.rule.Refusal.{Refusal}
use Rattle.refusing_memory.specs.declared.Refusing.{Refusing}

-- the rule of an allocator
abbrev pub rule_of : {B : Type 0} → Refusing B → Refusal
rule_of heap = heap.calls.refusal
