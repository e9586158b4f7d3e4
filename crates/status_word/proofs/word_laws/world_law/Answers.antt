use Rattle.status_word.proofs.Runs.{world_after}
use Rattle.status_word.proofs.word_laws.world_law.Goals as goal

pub returns : goal.returns
returns g c = λ sums workers actors items below.
    world_after _ c.know_coding.ensures.coded c.know_coding.ensures.sums sums workers actors items below
