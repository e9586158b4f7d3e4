use Rattle.sparse_products.proofs.Answered.{gives_rows}
use Rattle.sparse_products.proofs.rows_alone.rows_product.Goals as goal

pub returns : goal.returns
returns g c = gives_rows (λ y. y.items) c.product_alone.result c.args.rows.now c.args.columns.now c.args.values.now c.args.x.now c.product_alone.ensures
