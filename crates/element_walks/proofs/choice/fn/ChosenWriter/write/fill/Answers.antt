use Rattle.std.proofs.Common.{◌∙◌, ap, arith, get_or}
use Rattle.std.proofs.lemmas.List.{get_or_default}
use Rattle.cvl_base.specs.Elementwise.{chosen}
use Rattle.element_walks.proofs.Places.{value_on_triple}
use Rattle.element_walks.proofs.choice.fn.ChosenWriter.write.fill.Goals as goal

pub returns : goal.returns
returns g c =
    let flags = c.captures.flags.now in let xs = c.captures.xs.now in let ys = c.captures.ys.now in let k = c.args.place in
    let w = get_or flags k c.index-place.result in
    let x = get_or xs k c.index-place-2.result in
    let y = get_or ys k c.index-place-3.result in
    value_on_triple (λ b p. g.O.Single.value (chosen (g.F.Single.value b) p)) flags xs ys k w x y _ (omega arith) (omega arith) (omega arith)
    (get_or_default flags k _ w (omega arith)) (get_or_default xs k _ x (omega arith)) (get_or_default ys k _ y (omega arith))
    (c.apply.ensures ∙ ap g.O.Single.value (c.choose.ensures ∙ ap (λ flag. chosen flag (x, y)) c.apply-flag.ensures))
