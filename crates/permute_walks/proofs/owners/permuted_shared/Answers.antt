use Rattle.permute_walks.proofs.Cited.{rules, take_at}
use Rattle.permute_walks.proofs.LastSent.{as_many_told, fewer_told, length-last_senders}
use Rattle.permute_walks.proofs.Taken.{length-over}
use Rattle.permute_walks.proofs.owners.permuted_shared.Goals as goal

pub returns-then-sent-count_destinations-clause-written : goal.returns-then-sent-count_destinations-clause-written
returns-then-sent-count_destinations-clause-written g c = search (rules, length-over, length-last_senders, take_at, as_many_told)

pub returns-then-sent-count_destinations-clause-bad : goal.returns-then-sent-count_destinations-clause-bad
returns-then-sent-count_destinations-clause-bad g c = search (rules, as_many_told)

pub returns-else-sent-count_destinations-clause-bad : goal.returns-else-sent-count_destinations-clause-bad
returns-else-sent-count_destinations-clause-bad g c = search (rules, fewer_told)
