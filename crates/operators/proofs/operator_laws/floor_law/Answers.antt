use Rattle.operators.proofs.Flooring.{is_floor, only_floor}
use Rattle.operators.proofs.operator_laws.floor_law.Goals as goal

pub returns : goal.returns
returns c = record { floor = is_floor; only = only_floor }
