use Rattle.sparse_products.proofs.Cited.{◌∙◌, ap, sym, Err, Ok, first_outside}
use Rattle.sparse_products.proofs.Answered.{each_has_value, first_overflow}
use Rattle.sparse_products.proofs.answers.product_or_fault.Goals as goal

pub returns-in-None : goal.returns-in-None
returns-in-None g c = λ lengths values x places as_many adds_up items found.
    each_has_value g.S.RowWalk.rule lengths c.args.columns.now values x as_many adds_up (sym found ∙ c.in-None.is) ∙ ap Ok (sym items)

pub returns-in_ok-check_places_alone-in-Some : goal.returns-in_ok-check_places_alone-in-Some
returns-in_ok-check_places_alone-in-Some g c = λ lengths values x places as_many adds_up items found.
    first_overflow g.S.RowWalk.rule lengths c.args.columns.now values x as_many adds_up c.in-Some.row
    (c.in_ok-check_places_alone-in-Some.ensures ∙ ap (λ n. first_outside 0 n c.args.columns.now) places) (sym found ∙ c.in-Some.is) ∙ ap Err (sym c.at.ensures)
