use Rattle.step_laws.proofs.AnyOrder.{in_any_order}
use Rattle.step_laws.proofs.Merged.{fits, other_falses, other_trues}
use Rattle.step_laws.specs.MergeSteps.{CountsTrue, Merges}
use Rattle.step_laws.proofs.merges.merges_by_steps.Goals as goal

pub returns : goal.returns
returns g c = record {
  fits = λ start counted placed end xs ys before places behind rest few long first cuts_trues cuts_falses gets have last.
      fits start counted (in_any_order CountsTrue start counted first) placed gets end xs ys before places behind rest few long cuts_trues cuts_falses have
      (in_any_order Merges placed end last);
  other_trues = λ start counted xs ys status before places few long first cuts fails.
      other_trues start counted (in_any_order CountsTrue start counted first) xs ys status before places few long cuts fails;
  other_falses = λ start counted xs ys status before places behind rest few long first cuts_trues cuts fails.
      other_falses start counted (in_any_order CountsTrue start counted first) xs ys status before places behind rest few long cuts_trues cuts fails;
}
