-- Each line reads as it does by computation, once the table of the calls' names is opened.
use Rattle.std.proofs.Common.{rules}
use Rattle.cvl_base.specs.Spellings.{op_of, int_binaries, unaries, comparisons, bool_binaries, int_monoids, forms, elements}
use Rattle.worked_scripts.proofs.lines.know_lines.Goals as goal

pub returns : goal.returns
unfolding op_of int_binaries unaries comparisons bool_binaries int_monoids forms elements
returns c = search rules
