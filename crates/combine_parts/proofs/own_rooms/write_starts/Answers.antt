use Rattle.std.proofs.Common.{◌∙◌, ◌++◌, ◌∷◌, ◌*◌, ◌<◌, [], ap, arith, length, sym}
use Rattle.std.proofs.lemmas.List.{take_more_set}
use Rattle.std.proofs.lemmas.List.FromFn.{map-range_with_len_more}
use Rattle.combine_parts.proofs.own_rooms.write_starts.Goals as goal

pub loop-k-preserved : goal.loop-k-preserved
loop-k-preserved c =
    let k = c.loop-k.k in let distance = c.args.distance in
    let within : k < length c.loop-k.rooms = omega (arith, c.loop-k-test.true) in
    take_more_set c.loop-k.rooms k (k * distance) within ∙ ap (λ starts. starts ++ k * distance ∷ []) c.loop-k.invariant
    ∙ sym (map-range_with_len_more (λ j. j * distance) 0 k k (omega arith))
