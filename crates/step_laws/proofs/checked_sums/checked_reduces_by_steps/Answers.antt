use Rattle.std.proofs.Common.{subst}
use Rattle.c_calls.specs.Told.{Told}
use Rattle.step_laws.proofs.AnyOrder.{in_any_order}
use Rattle.step_laws.proofs.CheckedScans.{reduces}
use Rattle.step_laws.specs.CheckedSteps.{Totals}
use Rattle.step_laws.proofs.checked_sums.checked_reduces_by_steps.Goals as goal

pub returns : goal.returns
returns c = λ start summed status before now numbers few first joins.
    subst (λ m. Told m status before now) (reduces c.carry_fits.ensures start summed numbers few (in_any_order Totals start summed first)) joins
