use Rattle.std.proofs.Common.{◌∙◌, ap, length}
use Rattle.run_lengths.specs.Runs.{runs_of}
use Rattle.run_parts.proofs.Written.{length-lengths, lengths-are}
use Rattle.run_parts.proofs.walks.count_runs.Goals as goal

pub returns : goal.returns
returns g c = let runs = runs_of g.D.Binary.value c.args.a.now in c.run_numbers_over.ensures.1 ∙ ap length (lengths-are 0 runs) ∙ length-lengths runs
