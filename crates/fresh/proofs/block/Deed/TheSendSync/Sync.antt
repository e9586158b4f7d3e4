use Rattle.fresh.proofs.Cited.{RattleType, IsSync, Ghosts}
use Rattle.fresh.specs.contracts.block.Deed.{the_row}
use Rattle.fresh.proofs.Crosses.{Deed-sync}

pub sync : (R A : RattleType) (g : Ghosts A.Denot) → IsSync (the_row R A g)
sync = Deed-sync
