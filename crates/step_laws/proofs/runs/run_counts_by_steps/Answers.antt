use Rattle.std.proofs.Common.{subst}
use Rattle.c_calls.specs.Calls.{by_operator}
use Rattle.c_calls.specs.Told.{RoomTold, done}
use Rattle.cvl_base.specs.Scans.{int_join_of, int_unit_of}
use Rattle.segment_parts.specs.Behinds.{seg_behinds_of}
use Rattle.step_laws.proofs.AnyOrder.{in_any_order}
use Rattle.step_laws.proofs.RunCountsBySteps.{run_counts}
use Rattle.step_laws.specs.ReduceParts.{behinds_of, elements_of, starts_of, told_of}
use Rattle.step_laws.specs.RunParts.{parts_of}
use Rattle.step_laws.specs.RunSteps.{CountsRuns, TellsFronts}
use Rattle.step_laws.proofs.runs.run_counts_by_steps.Goals as goal

pub returns : goal.returns
returns g c = λ differ op lengths segments start told known end is_add is are rooms first go last.
    let behinds = subst (λ r. RoomTold (by_operator r (λ o. seg_behinds_of (int_join_of o) (int_unit_of o) (starts_of (parts_of told)) (told_of (parts_of told)))) done
    (behinds_of (parts_of told)) (behinds_of (parts_of known))) is_add go.0.0 in
    run_counts differ lengths segments start is are rooms told known end (in_any_order (TellsFronts differ (elements_of (parts_of start))) start told first) behinds go.0.1
    (in_any_order (CountsRuns differ) known end last)
