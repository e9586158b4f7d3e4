use Rattle.command_line.proofs.Cited.{◌∙◌, ap, Some, option_map, sym, digits_value, without_leading_plus, without_minus, found_of, one_text-rows}
use Rattle.command_line.proofs.numbers.number.Goals as goal

pub returns-clause-value : goal.returns-clause-value
returns-clause-value c =
    let has = c.requires.2 in
    let read = rw c.unwrap.ensures at (c.get_one.ensures.value (without_minus has.text) has.read) in
    ap (option_map (λ t. digits_value 10 (without_leading_plus t))) (sym (one_text-rows (found_of c.args.matches.now) c.args.name.now) ∙ has.read) ∙ ap Some (sym read.0.1)
