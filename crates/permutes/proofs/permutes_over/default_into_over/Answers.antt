use Rattle.permutes.proofs.Flat.{default_sent}
use Rattle.permutes.proofs.permutes_over.default_into_over.Goals as goal

pub returns : goal.returns
returns g c = c.all_permuted_over.ensures _ (default_sent c.args.source.now c.args.index.now c.in_ok-check_agree.ensures c.requires.in_limit c.args.defaults)
