use Rattle.std.proofs.Common.{◌∙◌, FitsSigned, ap, option_and_then, rules, sym, w32}
use Rattle.std.proofs.lemmas.Int.{to_z-of_z}
use Rattle.explained_values.specs.IndexWords.{first_sender}
use Rattle.explained_values.proofs.index_words.first_place.Goals as goal

pub returns-in-Some : goal.returns-in-Some
returns-in-Some g c =
    let fits : FitsSigned w32 c.in-Some.number = search rules in
    let sent = rw (to_z-of_z w32 c.in-Some.number fits) at c.first_sender.ensures in
    let found = sym (rw c.spelled_at.ensures at c.integer_at.ensures) ∙ c.in-Some.is in
    sent ∙ ap (option_and_then (first_sender c.args.op c.args.arguments.now c.args.place)) (sym found)
