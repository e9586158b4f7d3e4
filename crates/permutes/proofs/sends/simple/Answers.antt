use Rattle.std.proofs.Common.{arith, refl}
use Rattle.permute_walks.proofs.Told.{sent_permuted}
use Rattle.permutes.proofs.Flat.{simple_sent}
use Rattle.permutes.proofs.sends.simple.Goals as goal

pub returns-clause-values : goal.returns-clause-values
returns-clause-values g c =
    let agree = c.in_ok-check_agree.ensures in
    c.all_permuted.ensures.values _ (sent_permuted (simple_sent c.args.source.now c.args.index.now agree (omega (arith, c.requires.in_limit)) _ agree) _ refl)
