use Rattle.std.specs.Int.{int_wrap}
use Rattle.cvl_base.specs.Spellings.{op_of, int_binaries, unaries, comparisons, bool_binaries, int_monoids, forms, elements}
use Rattle.recipes.proofs.recipe_laws.sight_script_values.Goals as goal

pub returns : goal.returns
unfolding int_wrap op_of int_binaries unaries comparisons bool_binaries int_monoids forms elements
returns c = assumption
