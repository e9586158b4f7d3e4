use Rattle.command_line.proofs.Cited.{◌∙◌, ap, sym, codes, option_map, found_of, first_value-rows}
use Rattle.command_line.proofs.words.words_of.Goals as goal

pub returns-clause-script : goal.returns-clause-script
returns-clause-script c =
    sym (first_value-rows (found_of c.args.matches.now) (codes "script")) ∙ sym c.get_str.ensures ∙ ap (option_map (λ t. t.now)) c.unwrap.ensures
