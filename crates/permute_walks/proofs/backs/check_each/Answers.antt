use Rattle.permute_walks.proofs.Cited.{◌∙◌, sym}
use Rattle.permute_walks.proofs.Outside.{checked_more}
use Rattle.permute_walks.proofs.backs.check_each.Goals as goal

pub loop-k-preserved : goal.loop-k-preserved
loop-k-preserved c =
    checked_more c.args.first c.args.places c.args.index.now c.loop-k.k c.loop-k.invariant c.in-Some.field-0 c.loop-k-test.true (sym c.place_among.ensures.value ∙ c.in-Some.is)
