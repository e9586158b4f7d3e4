use Rattle.std.proofs.Common.{arith}
use Rattle.script_runs.proofs.Shown.{front_taken}
use Rattle.script_runs.proofs.puts.put_all.Goals as goal

pub loop-put-preserved : goal.loop-put-preserved
loop-put-preserved g c =
    let put = c.in_ok-put.ensures in (
      omega (arith, put.0, c.split_at.ensures.back_len),
      front_taken _ _ _ _ _ _ c.loop-put.invariant.1 (rw c.split_at.ensures.back at put.2),
    )
