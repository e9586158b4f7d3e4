use Rattle.step_laws.proofs.AnyOrder.{in_any_order}
use Rattle.step_laws.proofs.Packed.{fits, too_short}
use Rattle.step_laws.specs.PackSteps.{CountsKept, Packs}
use Rattle.step_laws.proofs.packs.packs_by_steps.Goals as goal

pub returns : goal.returns
returns g c = record {
  fits = λ start counted placed end before now room after few few_parts long first lays gets ranged last left_ranged behind.
      fits start counted placed end before now room after few few_parts long (in_any_order CountsKept start counted first) lays gets ranged
      (in_any_order Packs placed end last) left_ranged behind;
  too_short = λ start counted status before now room few few_parts long first lays fails.
      too_short start counted status before now room few few_parts long (in_any_order CountsKept start counted first) lays fails;
}
