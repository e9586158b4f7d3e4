use Rattle.std.proofs.Common.{◌∙◌}
use Rattle.bound_names.specs.Names.{bind}
use Rattle.vector_handles.proofs.BoundNames.{bound, kept}
use Rattle.vector_handles.proofs.session_laws.both_binding_law.Goals as goal

pub returns : goal.returns
returns g c = record {
  first = λ names first second both differ. kept (bind names first both.0) second first both.1 differ ∙ bound names first both.0;
  second = λ names first second both. bound (bind names first both.0) second both.1;
  others = λ names first second other both not_first not_second.
      kept (bind names first both.0) second other both.1 not_second ∙ kept names first other both.0 not_first;
}
