use Rattle.step_laws.proofs.CombineFaults.{look_fails, outside_whole}
use Rattle.step_laws.proofs.combines.index_faults.Goals as goal

pub returns : goal.returns
returns g c = λ k places start own status here few told fails.
    outside_whole start k own here places (look_fails start k own here few places status told fails)
