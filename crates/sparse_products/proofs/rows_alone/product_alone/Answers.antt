use Rattle.sparse_products.proofs.Cited.{rules, ◌+◌, ◌≤◌, length, map, unsigned_abs, zip, length-map, most_places, cut_of, length-cut, row_value}
use Rattle.fresh.proofs.Written.{all_written}
use Rattle.sparse_products.proofs.Answered.{found_among}
use Rattle.sparse_products.proofs.rows_alone.product_alone.Goals as goal

pub into_vec-requires : goal.into_vec-requires
into_vec-requires g c = search (rules, length-map, length-cut, all_written)

pub product_or_fault-requires-clause-rows : goal.product_or_fault-requires-clause-rows
product_or_fault-requires-clause-rows g c =
    let entries = zip c.args.columns.now c.args.values.now in
    let lengths = map unsigned_abs c.lengths.result.now in
    let run = c.in_ok-room.run' in
    let few : (run.first + length run.items) + length (map (row_value g.S.RowWalk.rule c.args.x.now) (cut_of lengths entries)) ≤ most_places = search (rules, length-map, length-cut) in
    found_among c.walk-run.result.1 (run.first + length run.items) most_places (map (row_value g.S.RowWalk.rule c.args.x.now) (cut_of lengths entries)) c.walk-run.ensures.found few
