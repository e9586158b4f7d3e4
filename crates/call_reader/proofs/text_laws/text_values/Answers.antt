use Rattle.std.specs.Fmt.{digits}
use Rattle.call_reader.proofs.text_laws.text_values.Goals as goal

pub returns : goal.returns
unfolding digits
returns g c = assumption
