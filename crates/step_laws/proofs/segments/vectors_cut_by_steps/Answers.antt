use Rattle.step_laws.proofs.AnyOrder.{in_any_order}
use Rattle.step_laws.proofs.CutVectors.{cut-both, cut-counts, cut-lengths, other-both, other-counts, other-lengths}
use Rattle.step_laws.specs.CountSteps.{Counts}
use Rattle.step_laws.specs.LengthSteps.{Measures}
use Rattle.step_laws.proofs.segments.vectors_cut_by_steps.Goals as goal

pub returns : goal.returns
returns g c = record {
  lengths = λ start measured xs before places first told. cut-lengths start measured (in_any_order Measures start measured first) xs before places told;
  other_lengths = λ start measured xs status before places segments long are first told fails.
      other-lengths start measured (in_any_order Measures start measured first) xs status before places segments long are told fails;
  flags = λ start counted xs before places first told. cut-counts start counted (in_any_order Counts start counted first) xs before places told;
  other_flags = λ start counted xs status before places long first told fails.
      other-counts start counted (in_any_order Counts start counted first) xs status before places long told fails;
  both = λ one other parts xs before places told. cut-both one other parts xs before places told;
  other_both = λ one other parts xs status before places few long told fails. other-both one other parts xs status before places few long told fails;
}
