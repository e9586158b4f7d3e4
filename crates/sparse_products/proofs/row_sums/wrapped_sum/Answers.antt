use Rattle.sparse_products.proofs.Cited.{rules, to_z-of_z}
use Rattle.sparse_products.proofs.Entries.{entries_done, entry_added, entry_outside, wrapped_value}
use Rattle.sparse_products.proofs.row_sums.wrapped_sum.Goals as goal

pub returns-in-None : goal.returns-in-None
returns-in-None c = search (rules, entry_outside, wrapped_value)

pub loop-k-preserved : goal.loop-k-preserved
loop-k-preserved c = search (rules, to_z-of_z, entry_added)

pub returns : goal.returns
returns c = search (rules, entries_done, wrapped_value)
