use Rattle.std.proofs.Common.{◌≡◌, ◌∙◌, Err, Ok, ap, arith, length, map, sym}
use Rattle.std.specs.List.{zip}
use Rattle.std.proofs.lemmas.List.{length-map}
use Rattle.std.proofs.lemmas.Slice.Zip.{length-zip}
use Rattle.cvl_base.specs.Elementwise.{chosen}
use Rattle.cvl_base.specs.Rooms.{in_room}
use Rattle.cvl_base.proofs.Elementwise.{if_as_long-fits}
use Rattle.cvl_base.proofs.Rooms.{differs, fits, told}
use Rattle.flag_calls.specs.Flags.{flag_of}
use Rattle.flag_calls.proofs.choice.choose_over.Goals as goal

pub returns-in_err-check_agree-3 : goal.returns-in_err-check_agree-3
returns-in_err-check_agree-3 g c =
    let bytes = c.args.bytes.now in let a = c.args.a.now in let b = c.args.b.now in let room = length c.args.out.now in
    let values = map (λ p. g.O.Single.value (chosen (flag_of p.0) p.1)) (zip bytes (zip a b)) in
    let long : length values ≡ length bytes =
    omega (
      arith,
      length-map (zip bytes (zip a b)) (λ p. g.O.Single.value (chosen (flag_of p.0) p.1)),
      length-zip bytes (zip a b),
      length-zip a b,
      c.in_ok-check_agree.ensures,
      c.in_ok-check_agree-2.ensures,
    ) in
    told _ c.from_residual-in_err-check_agree-3.result c.in_err-check_agree-3.field-0.0 c.args.out.now c.from_residual-in_err-check_agree-3.ensures.1
    (ap (in_room room) (if_as_long-fits bytes a _ (omega (arith, c.in_ok-check_agree.ensures)) ∙ if_as_long-fits bytes b (Ok values) (omega (arith, c.in_ok-check_agree-2.ensures)))
    ∙ differs room values (λ same. c.in_err-check_agree-3.ensures.1 (omega (arith, long, same))) ∙ ap Err (sym c.in_err-check_agree-3.ensures.0))

pub write_over-requires-clause-as_long : goal.write_over-requires-clause-as_long
write_over-requires-clause-as_long g c =
    let bytes = c.args.bytes.now in let pairs = zip c.args.a.now c.args.b.now in
    rw (c.new.ensures.flags, c.new.ensures.first, c.new.ensures.second) (omega (
      arith,
      length-map (zip bytes pairs) (λ p. g.O.Single.value (chosen (flag_of p.0) p.1)),
      length-zip bytes pairs,
      length-zip c.args.a.now c.args.b.now,
      c.in_ok-check_agree.ensures,
      c.in_ok-check_agree-2.ensures,
      c.in_ok-check_agree-3.ensures,
    ))

pub returns : goal.returns
returns g c =
    let bytes = c.args.bytes.now in let a = c.args.a.now in let b = c.args.b.now in let room = length c.args.out.now in
    let values = map (λ p. g.O.Single.value (chosen (flag_of p.0) p.1)) (zip bytes (zip a b)) in
    let long : length values ≡ room =
    omega (
      arith,
      length-map (zip bytes (zip a b)) (λ p. g.O.Single.value (chosen (flag_of p.0) p.1)),
      length-zip bytes (zip a b),
      length-zip a b,
      c.in_ok-check_agree.ensures,
      c.in_ok-check_agree-2.ensures,
      c.in_ok-check_agree-3.ensures,
    ) in
    ap (in_room room) (if_as_long-fits bytes a _ (omega (arith, c.in_ok-check_agree.ensures)) ∙ if_as_long-fits bytes b (Ok values) (omega (arith, c.in_ok-check_agree-2.ensures)))
    ∙ fits room values long
    ∙ ap Ok (sym (c.write_over.ensures ∙ λ i. map (λ p. g.O.Single.value (chosen (flag_of p.0) p.1)) (zip (c.new.ensures.flags i) (zip (c.new.ensures.first i) (c.new.ensures.second i)))))
