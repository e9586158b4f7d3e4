use Rattle.std.specs.Int.{int_wrap}
use Rattle.sparse_products.proofs.worked_products.product_values.Goals as goal

pub returns : goal.returns
unfolding int_wrap
returns c = assumption
