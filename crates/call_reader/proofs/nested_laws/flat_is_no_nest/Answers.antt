use Rattle.call_reader.proofs.FlatTexts.{flat_no_nest}
use Rattle.call_reader.proofs.nested_laws.flat_is_no_nest.Goals as goal

pub returns : goal.returns
returns c = flat_no_nest
