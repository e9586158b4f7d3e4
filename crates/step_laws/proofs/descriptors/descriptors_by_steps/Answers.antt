use Rattle.std.proofs.Common.{◌≡◌, ◌∙◌, Ok, refl, sym, ap, sum, subst}
use Rattle.cvl_base.specs.Descriptors.{descriptor_within}
use Rattle.cvl_base.specs.Gives.{◌>>=◌}
use Rattle.cvl_base.specs.Limits.{most_places}
use Rattle.part_records.specs.Totals.{total_within}
use Rattle.step_laws.proofs.AnyOrder.{in_any_order}
use Rattle.step_laws.proofs.Answered.{is_given, within}
use Rattle.step_laws.proofs.LengthFaults.{measure-fails, total-fails}
use Rattle.step_laws.proofs.Measured.{in_total, together}
use Rattle.step_laws.specs.LengthSteps.{Measures}
use Rattle.step_laws.specs.Parts.{elements_of, told_of}
use Rattle.c_calls.specs.Calls.{by_segments}
use Rattle.c_calls.specs.Told.{Told, done}
use Rattle.step_laws.proofs.descriptors.descriptors_by_steps.Goals as goal

pub returns : goal.returns
returns c = record {
  added = λ start measured before now few first joins.
      let added = in_total (told_of measured) now (is_given (total_within (told_of measured)) before now joins) in
      let all = together c.descriptor_in_parts.ensures start measured (in_any_order Measures start measured first) added.0 in
      let made : by_segments (elements_of start) (λ lengths. Ok (sum lengths)) ≡ Ok now =
      ap (λ r. r >>= λ lengths. Ok (sum lengths)) (within (elements_of start) (descriptor_within most_places (elements_of start)) few ∙ all.1)
      ∙ ap (λ n. Ok n) (all.2 ∙ added.1) in
      subst (λ m. Told m done before now) (sym made) (refl, refl);
  faults = λ start k own status left here told fails. measure-fails start k own here status left told fails;
  too_long = λ start measured status before now first told fails. total-fails start measured (in_any_order Measures start measured first) status before now told fails;
}
