use Rattle.std.proofs.Common.{refl}
use Rattle.value_texts.proofs.Lengths.{texts_of_lengths}
use Rattle.value_texts.proofs.flat_vectors.flat_vector.Goals as goal

pub returns-in-Descriptor : goal.returns-in-Descriptor
returns-in-Descriptor g c = rw (c.in-Descriptor.is, c.as_slice-in-Descriptor.ensures.value, texts_of_lengths c.in-Descriptor.lengths) refl
