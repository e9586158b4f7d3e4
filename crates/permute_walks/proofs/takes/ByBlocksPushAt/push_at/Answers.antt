use Rattle.permute_walks.proofs.Cited.{◌≡◌, ◌++◌, take-append-drop}
use Rattle.permute_walks.proofs.Blocks.{one_less}
use Rattle.permute_walks.proofs.takes.ByBlocksPushAt.push_at.Goals as goal

pub loop-rest-preserved : goal.loop-rest-preserved
loop-rest-preserved g c =
    let rest = c.loop-rest.rest.now in
    let block = c.split_at.result.0.now in
    let others = c.split_at.result.1.now in
    let cut : rest ≡ block ++ others = cc (take-append-drop c.min.result rest, c.split_at.ensures.front, c.split_at.ensures.back) in
    one_less c.args.source.now c.args.other c.args.index.now c.args.run rest block others c.loop-rest.run c.push_block-next.result.0 c.loop-rest.found c.push_block-next.result.1 c.or-found.result
    c.loop-rest.invariant cut c.push_block-next.ensures.run c.push_block-next.ensures.found c.or-found.ensures
