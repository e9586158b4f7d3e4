use Rattle.call_laws.proofs.Cited.{◌++◌, refl, of_two}
use Rattle.call_laws.proofs.SegmentsInTwo.{cut}
use Rattle.call_laws.proofs.TwoParts.{both}
use Rattle.program_laws.proofs.Slicing.{pairs-joined}
use Rattle.program_laws.proofs.slices.appends_in_parts.Goals as goal

pub returns : goal.returns
returns g c = λ xs more ys rest lengths later other_lengths other_later p q also_p also_q many also_many.
    pairs-joined (of_two ◌++◌) (both (cut lengths later xs more p also_p refl refl) (cut other_lengths other_later ys rest q also_q many also_many))
