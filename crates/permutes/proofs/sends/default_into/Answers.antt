use Rattle.std.proofs.Common.{arith}
use Rattle.permutes.proofs.Flat.{default_sent}
use Rattle.permutes.proofs.sends.default_into.Goals as goal

pub returns-clause-values : goal.returns-clause-values
returns-clause-values g c =
    c.all_permuted.ensures.values _ (default_sent c.args.source.now c.args.index.now c.in_ok-check_agree.ensures (omega (arith, c.requires.in_limit)) c.args.defaults)
