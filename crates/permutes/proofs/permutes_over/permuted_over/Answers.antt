use Rattle.std.proofs.Common.{length, subst, sym}
use Rattle.cvl_base.specs.Permutes.{first_fault, wrongs}
use Rattle.permute_walks.specs.Before.{IsPermuted}
use Rattle.permute_walks.specs.Senders.{senders_of}
use Rattle.permutes.proofs.permutes_over.permuted_over.Goals as goal

pub returns : goal.returns
returns g c = λ meaning call.
    let ts = g.D.Destinations.destinations c.args.destinations.now in
    c.elements_of_senders_over.ensures _ _ meaning c.senders_alone-found.ensures.senders
    (subst (λ xs. IsPermuted c.args.source.now c.args.before meaning (first_fault 0 (wrongs (length xs) ts)) (senders_of 0 ts (length xs))) (sym c.values.ensures) call)
