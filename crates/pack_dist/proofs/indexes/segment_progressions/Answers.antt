use Rattle.pack_dist.proofs.Cited.{◌∙◌, sym, rules, zip}
use Rattle.cvl_base.specs.Limits.{most_elements}
use Rattle.pack_dist.proofs.Distributed.{index-fits, index-misfits, lists-whole, numbers, steps-long}
use Rattle.pack_dist.proofs.indexes.segment_progressions.Goals as goal

pub returns-in_err-check_agree-2-clause-values : goal.returns-in_err-check_agree-2-clause-values
returns-in_err-check_agree-2-clause-values g c =
    let e = index-misfits most_elements c.args.inits.now c.args.strides.now c.args.d.now c.in_ok-check_agree.ensures
    (λ same. c.in_err-check_agree-2.ensures.1 (same ∙ sym c.count.ensures.value)) in
    search rules

pub invariant_of-numbers-clause-one_each : goal.invariant_of-numbers-clause-one_each
invariant_of-numbers-clause-one_each g c =
    steps-long most_elements c.args.inits.now c.args.strides.now c.args.d.now c.in_ok-check_agree.ensures ∙ c.in_ok-check_agree-2.ensures ∙ c.count.ensures.value

pub returns-clause-values : goal.returns-clause-values
returns-clause-values g c =
    index-fits most_elements c.args.inits.now c.args.strides.now c.args.d.now c.in_ok-check_agree.ensures (c.in_ok-check_agree-2.ensures ∙ c.count.ensures.value) c.requires

pub returns-clause-items : goal.returns-clause-items
returns-clause-items g c =
    c.total-total.ensures.value ∙ lists-whole (numbers most_elements) (zip c.args.inits.now c.args.strides.now) c.args.d.now
    (steps-long most_elements c.args.inits.now c.args.strides.now c.args.d.now c.in_ok-check_agree.ensures ∙ c.in_ok-check_agree-2.ensures ∙ c.count.ensures.value)
