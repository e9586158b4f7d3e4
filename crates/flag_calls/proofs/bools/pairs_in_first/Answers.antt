use Rattle.flag_calls.proofs.OnBytes.{on_bytes}
use Rattle.flag_calls.proofs.bools.pairs_in_first.Goals as goal

pub returns : goal.returns
returns g c = rw (on_bytes g.O.Binary.value c.args.a.now c.args.b.now) c.on_pairs_in_first.ensures
