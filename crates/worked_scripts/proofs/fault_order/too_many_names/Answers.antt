use Rattle.std.proofs.Common.{rules}
use Rattle.std.specs.Fmt.{digits}
use Rattle.std.specs.Int.{int_wrap}
use Rattle.cvl_base.specs.Spellings.{op_of, int_binaries, unaries, comparisons, bool_binaries, int_monoids, forms, elements}
use Rattle.worked_scripts.proofs.fault_order.too_many_names.Goals as goal

pub returns : goal.returns
unfolding op_of int_binaries unaries comparisons bool_binaries int_monoids forms elements digits int_wrap
returns c = search rules
