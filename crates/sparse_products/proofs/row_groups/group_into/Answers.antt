use Rattle.sparse_products.proofs.Cited.{◌+◌, ◌≤◌, sum, arith, length, map, refl, unsigned_abs, zip, length-zip}
use Rattle.sparse_products.proofs.Totals.{none_missing, rows_are}
use Rattle.sparse_products.proofs.row_groups.group_into.Goals as goal

pub returns-then-sums_into : goal.returns-then-sums_into
returns-then-sums_into c =
    let lengths = map unsigned_abs c.args.rows.now.lengths.now in
    let entries = zip c.args.rows.now.columns.now c.args.rows.now.values.now in
    let are = c.if-sums_into.ensures refl in
    let covered : sum lengths ≤ length entries = omega (arith, c.args.rows.now.covered, c.args.rows.now.as_many, length-zip c.args.rows.now.columns.now c.args.rows.now.values.now) in
    record {
      run = cc (c.differences_into.ensures, rows_are c.args.x.now c.sums_into.new.sums lengths entries are covered);
      found = none_missing c.args.x.now c.sums_into.new.sums lengths entries are (c.args.run.first + length c.args.run.items);
    }
