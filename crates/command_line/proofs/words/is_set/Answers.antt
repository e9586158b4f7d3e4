use Rattle.command_line.proofs.Cited.{◌∙◌, ap, codes, bytes_eq, unwrap_or, [], Option, found_of, first_value-rows, Text}
use Rattle.command_line.proofs.words.is_set.Goals as goal

pub returns-in-Some : goal.returns-in-Some
returns-in-Some c =
    c.eq.ensures
    ∙ ap (λ (o : Option Text). bytes_eq (unwrap_or o []) (codes "true")) (c.in-Some.ensures ∙ first_value-rows (found_of c.args.matches.now) c.args.name.now)

pub returns-in-None : goal.returns-in-None
returns-in-None c =
    ap (λ (o : Option Text). bytes_eq (unwrap_or o []) (codes "true")) (c.in-None.ensures ∙ first_value-rows (found_of c.args.matches.now) c.args.name.now)
