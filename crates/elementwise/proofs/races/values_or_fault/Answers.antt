use Rattle.elementwise.proofs.Cited.{◌∙◌, Ok, ap, arith, length, map, pos, sym, zip, unwrap_or, values_long}
use Rattle.elementwise.proofs.LeastFaults.{pairs_fail, pairs_succeed}
use Rattle.elementwise.proofs.races.values_or_fault.Goals as goal

pub returns-in-Some-clause-values : goal.returns-in-Some-clause-values
returns-in-Some-clause-values g c =
    rw (c.at.ensures, c.fault.ensures)
    (pairs_fail g.O.PartialBinary.fault g.O.PartialBinary.value c.args.a.now c.args.b.now c.in_ok-check_agree.ensures c.in-Some.place (sym c.in_ok-place.ensures ∙ c.in-Some.is))

pub write_in_runs-requires-after_bounds : goal.write_in_runs-requires-after_bounds
write_in_runs-requires-after_bounds g c κs within =
    rw (c.new-values.ensures.first, c.new-values.ensures.second)
    (omega (arith, values_long (λ p. unwrap_or (g.O.PartialBinary.value p.0 p.1) (pos 0)) c.args.a.now c.args.b.now c.in_ok-check_agree.ensures))

pub returns-clause-values : goal.returns-clause-values
returns-clause-values g c =
    pairs_succeed g.O.PartialBinary.fault g.O.PartialBinary.value c.args.a.now c.args.b.now c.in_ok-check_agree.ensures (sym c.in_ok-place.ensures ∙ c.in_default.is)
    ∙ sym (ap Ok (c.in_ok-write_in_runs.ensures
    ∙ λ i. map (λ p. unwrap_or (g.O.PartialBinary.value p.0 p.1) (pos 0)) (zip (c.new-values.ensures.first i) (c.new-values.ensures.second i))))

pub returns-clause-as_long : goal.returns-clause-as_long
returns-clause-as_long g c =
    let same = c.in_ok-write_in_runs.ensures
    ∙ (λ i. map (λ p. unwrap_or (g.O.PartialBinary.value p.0 p.1) (pos 0)) (zip (c.new-values.ensures.first i) (c.new-values.ensures.second i))) in
    omega (arith, c.in_ok-write_in_runs.field-0.ok, ap length same, values_long (λ p. unwrap_or (g.O.PartialBinary.value p.0 p.1) (pos 0)) c.args.a.now c.args.b.now c.in_ok-check_agree.ensures)
