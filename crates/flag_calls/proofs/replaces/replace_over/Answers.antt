use Rattle.std.proofs.Common.{◌≡◌, ◌∙◌, Ok, ap, arith, length, map, set, sym, w32}
use Rattle.std.proofs.lemmas.Int.{to_z-of_z}
use Rattle.std.proofs.lemmas.List.{length-map, length-set}
use Rattle.cvl_base.specs.Rooms.{in_room}
use Rattle.cvl_base.proofs.Rooms.{fits}
use Rattle.flag_calls.specs.Flags.{as_flag, byte_of}
use Rattle.flag_calls.proofs.Replaced.{replaced}
use Rattle.flag_calls.proofs.replaces.replace_over.Goals as goal

pub returns : goal.returns
returns c =
    let bytes = c.args.vector.now in let room = length c.args.out.now in let place = c.in-Some.place in let byte = byte_of c.args.value in
    let values = set (map as_flag bytes) place byte in
    let written : c.write_over.new.out ≡ map as_flag bytes = c.write_over.ensures ∙ ap (map as_flag) c.new.ensures in
    let long : length values ≡ room = omega (arith, length-set (map as_flag bytes) place byte, length-map bytes as_flag, c.in_ok-check_agree.ensures) in
    ap (in_room room) (replaced bytes c.args.index place c.args.value (sym (to_z-of_z w32 c.args.index c.ranges.index) ∙ c.in-Some.ensures.named.1) c.in-Some.ensures.named.0) ∙ fits room values long
    ∙ ap Ok (λ i. set (sym written i) place (sym c.byte_of.ensures i))
