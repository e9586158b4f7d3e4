use Rattle.sparse_products.proofs.Cited.{rules, length-map, length-cut, range_lengths, range_read}
use Rattle.sparse_products.proofs.row_walks.RowValuesCheckedWriterI32.share.Goals as goal

pub split_at-requires : goal.split_at-requires
split_at-requires g c = search (rules, length-map, length-cut)

pub split_at-requires-2 : goal.split_at-requires-2
split_at-requires-2 g c = search (rules, length-map, length-cut)

pub rows_of_share-requires-clause-lengths : goal.rows_of_share-requires-clause-lengths
rows_of_share-requires-clause-lengths g c = search (rules, range_lengths)

pub returns-clause-exact : goal.returns-clause-exact
returns-clause-exact g c = search (rules, range_read)
