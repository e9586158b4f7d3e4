use Rattle.step_laws.proofs.CutBounds.{all-before, none-before}
use Rattle.step_laws.proofs.CutParts.{fill-parts, fills-done, reduce-parts, run-parts}
use Rattle.step_laws.proofs.CutPieces.{head-slices, last-slices, pieces-cut}
use Rattle.step_laws.proofs.cuts.segments_cut_at_places.Goals as goal

pub returns : goal.returns
returns g c = record {
  begin = none-before;
  end = all-before;
  pieces = λ lengths places xs whole cuts. pieces-cut lengths xs whole places cuts;
  heads = λ lengths places xs whole cuts. head-slices lengths xs whole places cuts;
  since_starts = λ lengths places xs whole cuts. last-slices lengths xs whole places cuts;
  reduce_parts = λ lengths places xs parts whole cuts are. reduce-parts lengths xs whole places cuts parts are;
  fill_parts = λ lengths places values room parts whole one cuts are. fill-parts lengths values room whole one places cuts parts are;
  dones = λ lengths places values room parts whole cuts are told. fills-done lengths values room whole places cuts parts are told;
  run_parts = λ lengths places xs parts whole cuts are. run-parts lengths xs whole places cuts parts are;
}
