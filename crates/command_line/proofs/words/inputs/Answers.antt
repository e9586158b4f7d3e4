use Rattle.command_line.proofs.Cited.{◌∙◌, ap, List, Option, [], codes, unwrap_or, found_of, Text, texts, raw_values-rows}
use Rattle.std.proofs.lemmas.Result.{IfOk-weaker}
use Rattle.command_line.proofs.words.inputs.Goals as goal

pub returns-in-Some : goal.returns-in-Some
returns-in-Some c =
    let lent = ap (λ (o : Option (List Text)). unwrap_or o []) (c.in-Some.ensures ∙ raw_values-rows (found_of c.args.matches.now) (codes "inputs")) in
    IfOk-weaker c.from_slice.result _ _ (λ v same. ap texts same ∙ lent) c.from_slice.ensures.items

pub returns-in-None : goal.returns-in-None
returns-in-None c =
    rw c.new.ensures.items (ap (λ (o : Option (List Text)). unwrap_or o []) (c.in-None.ensures ∙ raw_values-rows (found_of c.args.matches.now) (codes "inputs")))
