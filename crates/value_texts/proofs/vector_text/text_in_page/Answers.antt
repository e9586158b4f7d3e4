use Rattle.std.proofs.Common.{◌-◌, ◌≤◌, ◌++◌, length, drop, ap, ◌∙◌, append-nil, arith}
use Rattle.std.proofs.lemmas.List.{drop_all, length-drop, take_all}
use Rattle.value_texts.proofs.vector_text.text_in_page.Goals as goal

pub returns : goal.returns
returns g c =
    let w = c.write_before-start in
    let text = g.T.Written.text_of c.args.x.now in
    let size : length (drop w.result w.new.page) ≤ 12288 - w.result = omega (arith, length-drop w.result w.new.page) in
    take_all (12288 - w.result) (drop w.result w.new.page) size ∙ w.ensures.written ∙ ap (λ bytes. text ++ bytes) (drop_all 12288 c.args.page.now (omega arith)) ∙ append-nil text
