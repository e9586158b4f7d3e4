-- What frees a block of the inner allocator in any thread frees it through this one.
use mir.Syntax.{Dict}
use denote.RattleType.{RattleType}
use denote.Param.Send.{Frees}
use Rattle.std.specs.declared.alloc.Allocator.{Ghosts}
use Rattle.refusing_memory.specs.contracts.RefusingAllocator.TheImpl.{ghosts}

pub frees : (B : RattleType) (g : Ghosts B.Denot) (d e : Dict) → Frees g g.dealloc_token → Frees (ghosts B g d e) (ghosts B g d e).dealloc_token
frees B g d e f = record { frees = λ h τ p. f.frees h.inner τ p }
