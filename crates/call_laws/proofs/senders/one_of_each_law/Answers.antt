use Rattle.call_laws.proofs.Cited.{range_with_len}
use Rattle.call_laws.proofs.FirstSent.{one_of_each}
use Rattle.call_laws.proofs.senders.one_of_each_law.Goals as goal

pub returns : goal.returns
returns c = λ index m. one_of_each index (range_with_len 0 m) 0
