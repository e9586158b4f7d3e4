use Rattle.std.proofs.Common.{arith}
use Rattle.shell.proofs.Streams.{told_front}
use Rattle.shell.proofs.stream_host.write_whole.Goals as goal

pub loop-written-preserved : goal.loop-written-preserved
loop-written-preserved g c = (
  omega (arith, c.in-Ok.ensures.bound, c.split_at.ensures.back_len),
  told_front c.args.bytes.now c.loop-written.written c.in-Ok.taken _ _ _ c.loop-written.invariant.1
      (rw c.split_at.ensures.back at c.in-Ok.ensures.bytes),
)
