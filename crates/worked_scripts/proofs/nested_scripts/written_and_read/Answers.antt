use Rattle.worked_scripts.proofs.NestedScripts.{made_is, read_is, refused_is}
use Rattle.worked_scripts.proofs.nested_scripts.written_and_read.Goals as goal

pub returns : goal.returns
returns g c = record {
  made = λ numbers lengths total few. made_is _ numbers lengths total few;
  read = λ bytes numbers lengths total is. read_is bytes numbers lengths total is;
  refused = λ bytes f is. refused_is bytes f is;
}
