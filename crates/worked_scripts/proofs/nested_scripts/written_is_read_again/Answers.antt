use Rattle.worked_scripts.proofs.NestedScripts.{same}
use Rattle.worked_scripts.proofs.nested_scripts.written_is_read_again.Goals as goal

pub returns : goal.returns
returns g c = λ bytes numbers lengths within total few_numbers few_lists wrote.
    same _ bytes numbers lengths total few_numbers wrote (c.nest_reads_back.ensures lengths numbers within total few_numbers few_lists)
