use Rattle.fresh.proofs.Cited.{RattleType, IsSync}
use Rattle.fresh.proofs.Crosses.{Cells-sync}
use Rattle.fresh.specs.contracts.cells.Cells.{the_row}

pub sync : (R : RattleType) → IsSync (the_row R)
sync = Cells-sync
