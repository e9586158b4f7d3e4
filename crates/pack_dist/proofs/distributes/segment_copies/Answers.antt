use Rattle.pack_dist.proofs.Cited.{◌∙◌}
use Rattle.cvl_base.specs.Limits.{most_elements}
use Rattle.pack_dist.proofs.Distributed.{copies, lists-fit, lists-whole}
use Rattle.pack_dist.proofs.distributes.segment_copies.Goals as goal

pub returns-clause-values : goal.returns-clause-values
returns-clause-values g c = lists-fit (copies most_elements) c.args.values.now c.args.d.now (c.in_ok-check_agree.ensures ∙ c.count.ensures.value) c.requires

pub returns-clause-items : goal.returns-clause-items
returns-clause-items g c = c.total-total.ensures.value ∙ lists-whole (copies most_elements) c.args.values.now c.args.d.now (c.in_ok-check_agree.ensures ∙ c.count.ensures.value)
