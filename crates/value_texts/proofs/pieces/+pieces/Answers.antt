use Rattle.std.proofs.Common.{◌≡◌, ◌++◌, ◌∙◌, ◌∷◌, ap, sym, rules}
use Rattle.std.proofs.lemmas.Grind.{flat_map-append}
use Rattle.std.proofs.lemmas.List.Folds.{concat-append}
use Rattle.value_texts.specs.Texts.{spaced}
use Rattle.value_texts.proofs.pieces.+pieces.Goals as goal

pub write_pieces-returns : goal.write_pieces-returns
write_pieces-returns g t c =
    let text_of = g.T.Written.text_of in
    let cut = c.split_at.result in
    let both = c.write_both in
    let whole : cut.0.now ++ cut.1.now ≡ c.args.xs.now = search rules in
    concat-append both.new.low both.new.high
    ∙ (λ i. both.ensures.low i ++ both.ensures.high i)
    ∙ sym (flat_map-append (λ x. 32 ∷ text_of x) cut.0.now cut.1.now)
    ∙ ap (spaced text_of) whole
