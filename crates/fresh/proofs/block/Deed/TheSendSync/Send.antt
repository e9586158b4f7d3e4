use Rattle.fresh.proofs.Cited.{RattleType, IsSend, Frees, Ghosts}
use Rattle.fresh.specs.contracts.block.Deed.{the_row}
use Rattle.fresh.proofs.Crosses.{Deed-send}

pub send : (R A : RattleType) (g : Ghosts A.Denot) → IsSend A → Frees g g.dealloc_token → IsSend (the_row R A g)
send R A g s = Deed-send R A g
