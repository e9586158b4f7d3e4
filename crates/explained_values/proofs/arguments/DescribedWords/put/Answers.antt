use Rattle.std.proofs.lemmas.List.{length-map}
use Rattle.cvl_base.proofs.Descriptors.{abs_pos}
use Rattle.explained_values.proofs.arguments.DescribedWords.put.Goals as goal

pub returns-in-Descriptor : goal.returns-in-Descriptor
returns-in-Descriptor g c =
    rw c.in-Descriptor.is
    (rw (c.total_of.ensures, c.as_slice-lengths.ensures.value, abs_pos, length-map) at c.put-in-Descriptor.ensures)
