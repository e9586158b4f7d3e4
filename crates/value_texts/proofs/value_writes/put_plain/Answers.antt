use Rattle.value_texts.proofs.Lengths.{texts_of_lengths}
use Rattle.value_texts.proofs.value_writes.put_plain.Goals as goal

pub returns-in-Descriptor : goal.returns-in-Descriptor
returns-in-Descriptor g c =
    rw c.in-Descriptor.is (rw (c.as_slice-in-Descriptor.ensures.value, texts_of_lengths c.in-Descriptor.lengths) at c.put_vector-in-Descriptor.ensures)
