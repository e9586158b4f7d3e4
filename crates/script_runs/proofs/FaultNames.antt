-- The names of faults are short.
use Rattle.std.proofs.Common.{◌≤◌, length, arith}
use Rattle.cvl_base.specs.declared.fault.FaultNo.{FaultNo}
use Rattle.cvl_base.specs.declared.fault.FaultNo.TheVariants as no
use Rattle.cvl_base.specs.Faults.{name_of}

pub name_short : (number : FaultNo) → length (name_of number) ≤ 18
name_short no.BadLine = omega arith
name_short number = omega arith
