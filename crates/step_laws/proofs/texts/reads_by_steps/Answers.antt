use Rattle.call_reader.specs.Inputs.{input_within}
use Rattle.cvl_base.specs.Limits.{most_places}
use Rattle.step_laws.specs.TextSteps.{Makes, Puts, integers_piece}
use Rattle.step_laws.proofs.AnyOrder.{in_any_order}
use Rattle.step_laws.proofs.ReadSteps.{fits-read, short-read, too-many}
use Rattle.step_laws.proofs.ReadTexts.{part-fault}
use Rattle.step_laws.proofs.texts.reads_by_steps.Goals as goal

pub returns : goal.returns
returns c = record {
  fits = λ start made placed end before now room after some long first known lays gets places ranged last left_ranged behind.
      fits-read start made placed end before now room after known.0 known.1 known.2 known.3 (in_any_order (Makes (input_within most_places)) start made first) lays gets ranged
      (in_any_order (Puts integers_piece) placed end last) left_ranged behind;
  too_short = λ start made status before now room some long first known lays fails.
      short-read start made status before now room known.0 known.1 known.2 known.3 long (in_any_order (Makes (input_within most_places)) start made first) lays fails;
  too_many = λ start made status before now cut first told fails.
      too-many start made status before now cut (in_any_order (Makes (input_within most_places)) start made first) told fails;
  faults = part-fault;
}
