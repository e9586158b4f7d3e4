use Rattle.vector_handles.proofs.BoundNames.{bound, kept}
use Rattle.vector_handles.proofs.session_laws.binding_law.Goals as goal

pub returns : goal.returns
returns g c = record {
  bound = λ names name v. bound names name v;
  others = λ names name v other differ. kept names name other v differ;
}
