use Rattle.recipes.proofs.ProductFaults.{script_is}
use Rattle.recipes.proofs.recipe_laws.product_script_law.Goals as goal

pub returns : goal.returns
returns c lens cols vals x = script_is (Unit {0}) lens cols vals x
