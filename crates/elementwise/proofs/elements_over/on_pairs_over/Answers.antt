use Rattle.elementwise.proofs.Cited.{◌∙◌, Err, Ok, ap, arith, length, map, sym, zip, in_room, if_as_long-fits, differs, told, values_long}
use Rattle.elementwise.proofs.elements_over.on_pairs_over.Goals as goal

pub returns-in_err-check_agree-2 : goal.returns-in_err-check_agree-2
returns-in_err-check_agree-2 g c =
    let a = c.args.a.now in let b = c.args.b.now in let room = length c.args.out.now in
    let values = map (λ p. g.O.Binary.value p.0 p.1) (zip a b) in
    let long = values_long (λ p. g.O.Binary.value p.0 p.1) a b c.in_ok-check_agree.ensures in
    told _ c.from_residual-in_err-check_agree-2.result c.in_err-check_agree-2.field-0.0 c.args.out.now c.from_residual-in_err-check_agree-2.ensures.1
    (ap (in_room room) (if_as_long-fits a b (Ok values) c.in_ok-check_agree.ensures)
    ∙ differs room values (λ same. c.in_err-check_agree-2.ensures.1 (sym long ∙ same)) ∙ ap Err (sym c.in_err-check_agree-2.ensures.0))

pub write_over-requires-clause-as_long : goal.write_over-requires-clause-as_long
write_over-requires-clause-as_long g c =
    rw (c.new.ensures.first, c.new.ensures.second)
    (omega (arith, values_long (λ p. g.O.Binary.value p.0 p.1) c.args.a.now c.args.b.now c.in_ok-check_agree.ensures, c.in_ok-check_agree-2.ensures))
