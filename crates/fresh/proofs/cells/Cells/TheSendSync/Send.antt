use Rattle.fresh.proofs.Cited.{RattleType, IsSend}
use Rattle.fresh.proofs.Crosses.{Cells-send}
use Rattle.fresh.specs.contracts.cells.Cells.{the_row}

pub send : (R : RattleType) → IsSend R → IsSend (the_row R)
send = Cells-send
