use Rattle.elementwise.proofs.Cited.{◌∙◌, sym, if_as_long-fits}
use Rattle.elementwise.proofs.LeastFaults.{pairs_fail, pairs_succeed}
use Rattle.elementwise.proofs.valueless.check_values.Goals as goal

pub returns-in-Some : goal.returns-in-Some
returns-in-Some g c =
    rw (c.at.ensures, c.fault.ensures)
    (pairs_fail g.O.PartialBinary.fault g.O.PartialBinary.value c.args.a.now c.args.b.now c.in_ok-check_agree.ensures c.in-Some.place (sym c.first_without.ensures ∙ c.in-Some.is))

pub returns-in-None : goal.returns-in-None
returns-in-None g c =
    pairs_succeed g.O.PartialBinary.fault g.O.PartialBinary.value c.args.a.now c.args.b.now c.in_ok-check_agree.ensures (sym c.first_without.ensures ∙ c.in-None.is)
    ∙ sym (if_as_long-fits c.args.a.now c.args.b.now _ c.in_ok-check_agree.ensures)
