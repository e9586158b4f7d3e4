use Rattle.call_laws.proofs.Cited.{element_at, IndexOutOfRange}
use Rattle.call_laws.proofs.TwoParts.{values-two}
use Rattle.call_laws.proofs.permutes_in_parts.back_permute_in_parts.Goals as goal

pub returns : goal.returns
returns g c = λ source. values-two IndexOutOfRange (element_at source)
