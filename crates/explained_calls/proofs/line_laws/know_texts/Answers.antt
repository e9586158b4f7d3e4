use Rattle.explained_calls.proofs.LineLaws.{fault_told}
use Rattle.explained_calls.proofs.line_laws.know_texts.Goals as goal

pub returns : goal.returns
returns g c line f e = fault_told _ line f e
