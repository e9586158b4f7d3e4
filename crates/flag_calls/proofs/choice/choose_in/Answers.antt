use Rattle.std.proofs.Common.{◌≡◌, ◌∙◌, ◌<◌, Ok, ap, arith, get_or, length, map, sym}
use Rattle.std.specs.List.{zip}
use Rattle.std.proofs.lemmas.List.{get_or_default, length-map}
use Rattle.std.proofs.lemmas.Slice.Zip.{length-zip}
use Rattle.cvl_base.specs.Elementwise.{chosen}
use Rattle.cvl_base.proofs.Elementwise.{if_as_long-fits}
use Rattle.element_walks.proofs.Places.{value_on_triple}
use Rattle.elementwise.proofs.InPlace.{ends, step}
use Rattle.flag_calls.proofs.choice.choose_in.Goals as goal

pub loop-place-preserved : goal.loop-place-preserved
loop-place-preserved g c =
    let bytes = c.args.bytes.now in let over = c.args.over.now in let others = c.args.others.now in let place = c.loop-place.place in
    let within : place < length over = omega (arith, c.loop-place-test.true) in
    let in_bytes : place < length bytes = omega (arith, within, c.in_ok-check_agree.ensures) in
    let in_others : place < length others = omega (arith, in_bytes, c.in_ok-check_agree-2.ensures) in
    let byte = get_or bytes place 0 in let x = c.index-over-place.result in let y = c.index-others-place.result in let v = c.apply-in-loop-place.result in
    step (map (λ p. g.O.Single.value (chosen (g.F.Single.value p.0) p.1)) (zip bytes (zip over others))) over c.loop-place.over place c.loop-place.invariant
    v (omega (arith, within))
    (value_on_triple (λ b p. g.O.Single.value (chosen (g.F.Single.value b) p)) bytes over others place byte x y v in_bytes within in_others
    (get_or_default bytes place 0 byte in_bytes) (c.index-over-place.is ∙ c.loop-place.invariant.left x place (omega arith)) c.index-others-place.is
    (c.apply-in-loop-place.ensures ∙ ap g.O.Single.value (c.choose.ensures ∙ ap (λ flag. chosen flag (x, y)) c.apply.ensures)))

pub returns : goal.returns
returns g c =
    let bytes = c.args.bytes.now in let over = c.args.over.now in let others = c.args.others.now in
    let whole = map (λ p. g.O.Single.value (chosen (g.F.Single.value p.0) p.1)) (zip bytes (zip over others)) in
    let long : length whole ≡ length over =
    omega (
      arith,
      length-map (zip bytes (zip over others)) (λ p. g.O.Single.value (chosen (g.F.Single.value p.0) p.1)),
      length-zip bytes (zip over others),
      length-zip over others,
      c.in_ok-check_agree.ensures,
      c.in_ok-check_agree-2.ensures,
    ) in
    if_as_long-fits bytes over _ (omega (arith, c.in_ok-check_agree.ensures)) ∙ if_as_long-fits bytes others _ (omega (arith, c.in_ok-check_agree-2.ensures))
    ∙ ap Ok (sym (ends whole over c.loop-place.over c.loop-place.place c.loop-place.invariant (omega (arith, long)) (omega (arith, long, c.loop-place-test.false))))
