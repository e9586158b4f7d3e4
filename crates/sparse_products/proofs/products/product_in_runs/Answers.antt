use Rattle.sparse_products.proofs.Cited.{rules, ◌+◌, ◌≤◌, arith, length, map, zip, length-map, most_places, cut_of, length-cut, row_value}
use Rattle.sparse_products.proofs.Answered.{found_among}
use Rattle.sparse_products.proofs.products.product_in_runs.Goals as goal

pub write_checked_in_runs-requires-clause-items : goal.write_checked_in_runs-requires-clause-items
write_checked_in_runs-requires-clause-items g c κs within = search (rules, length-map, length-cut)

pub write_checked_in_runs-requires-clause-values : goal.write_checked_in_runs-requires-clause-values
write_checked_in_runs-requires-clause-values g c κs within = search (rules, length-map, length-cut)

pub product_or_fault-requires-clause-rows : goal.product_or_fault-requires-clause-rows
product_or_fault-requires-clause-rows g c =
    let entries = zip c.args.columns.now c.args.values.now in
    let rows = cut_of c.args.rows.now entries in
    let few : 0 + length (map (row_value g.S.RowWalk.rule c.args.x.now) rows) ≤ most_places =
    omega (arith, c.count-count.ensures.value, c.count-count.ensures.in_limit, length-map rows (row_value g.S.RowWalk.rule c.args.x.now), length-cut c.args.rows.now entries) in
    found_among c.in_ok-written.found 0 most_places (map (row_value g.S.RowWalk.rule c.args.x.now) rows) c.in_ok-written.ensures.found few
