use Rattle.step_laws.proofs.AnyOrder.{in_any_order}
use Rattle.step_laws.proofs.RunsBySteps.{too_short, with_lengths, with_starts}
use Rattle.step_laws.specs.ReduceParts.{elements_of}
use Rattle.step_laws.specs.RunParts.{parts_of}
use Rattle.step_laws.specs.RunSteps.{PutsLengths, PutsStarts, TellsRuns}
use Rattle.step_laws.proofs.runs.runs_by_steps.Goals as goal

pub returns : goal.returns
returns g c = record {
  lengths = λ differ lengths segments start told placed end before now room after is are memory places behinds first lays gets ranged know put left_ranged behind.
      with_lengths differ lengths segments start told is are memory before now room places behinds
      (in_any_order (TellsRuns differ (elements_of (parts_of start))) start told first) placed end after lays gets ranged know (in_any_order PutsLengths placed end put)
      left_ranged behind;
  starts = λ differ lengths segments start told placed end before now room after is are memory places behinds first lays gets ranged know put left_ranged behind.
      with_starts differ lengths segments start told is are memory before now room places behinds
      (in_any_order (TellsRuns differ (elements_of (parts_of start))) start told first) placed end after lays gets ranged know (in_any_order PutsStarts placed end put)
      left_ranged behind;
  too_short = λ number differ lengths segments start told status before now room is are memory places behinds first lays fails.
      too_short differ lengths segments start told is are memory before now room places behinds
      (in_any_order (TellsRuns differ (elements_of (parts_of start))) start told first) number status lays fails;
}
