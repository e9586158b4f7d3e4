use Rattle.std.specs.Int.{int_wrap}
use Rattle.recipes.proofs.recipe_laws.visibility_values.Goals as goal

pub returns : goal.returns
unfolding int_wrap
returns c = assumption
