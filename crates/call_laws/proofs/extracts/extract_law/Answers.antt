use Rattle.call_laws.proofs.ElementPlaces.{extract-meaning}
use Rattle.call_laws.proofs.extracts.extract_law.Goals as goal

pub returns-clause-meaning : goal.returns-clause-meaning
returns-clause-meaning g c = extract-meaning
