use Rattle.permute_walks.proofs.Cited.{rules, append_assoc, All-get_or}
use Rattle.permute_walks.proofs.Outside.{read_index, at_more}
use Rattle.permute_walks.proofs.backs.write_elements_at.Goals as goal

pub loop-i-preserved : goal.loop-i-preserved
loop-i-preserved g c = search (rules, read_index, All-get_or, append_assoc, at_more)
