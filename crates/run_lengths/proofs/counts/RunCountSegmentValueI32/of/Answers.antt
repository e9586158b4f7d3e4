use Rattle.std.proofs.Common.{◌∙◌, ◌≤◌, ap, arith, pos, rules, w32}
use Rattle.std.proofs.lemmas.Int.{to_z_pos}
use Rattle.run_lengths.proofs.Counted.{most_runs}
use Rattle.run_lengths.proofs.counts.RunCountSegmentValueI32.of.Goals as goal

pub overflow_cast-result : goal.overflow_cast-result
overflow_cast-result g c =
    let few : c.count_runs.result ≤ 2147483647 = omega (arith, c.count_runs.ensures, most_runs g.D.Binary.value c.args.segment.now, c.requires) in
    search (rules, few)

pub returns : goal.returns
returns g c =
    to_z_pos w32 c.count_runs.result (omega (arith, c.count_runs.ensures, most_runs g.D.Binary.value c.args.segment.now, c.requires)) ∙ ap pos c.count_runs.ensures
