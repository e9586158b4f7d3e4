use Rattle.vector_handles.proofs.ResultKinds.{named_kind, named_kinds}
use Rattle.vector_handles.proofs.session_laws.result_kind_law.Goals as goal

pub returns : goal.returns
returns g c = record {
  one = λ inputs call arg. named_kind _ inputs call arg;
  two = λ inputs call arg. named_kinds _ inputs call arg;
}
