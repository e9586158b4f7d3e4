use Rattle.sparse_products.proofs.Answered.{gives_product}
use Rattle.sparse_products.proofs.products.sparse_product.Goals as goal

pub returns : goal.returns
returns g c =
    gives_product (λ y. y.items) c.product_in_runs.result c.in_ok-rows.rows c.args.columns.now c.args.values.now c.args.x.now c.product_in_runs.ensures _ c.in_ok-rows.ensures
