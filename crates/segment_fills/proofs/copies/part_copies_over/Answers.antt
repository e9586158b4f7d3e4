use Rattle.std.proofs.Common.{◌≡◌, ◌∙◌, ◌-◌, Ok, ap, arith, length, sym, take}
use Rattle.cvl_base.specs.Lists.{joined}
use Rattle.pack_dist.specs.Lists.{copies_of}
use Rattle.segment_fills.proofs.Parts.{copied, part-distributes}
use Rattle.segment_fills.proofs.copies.part_copies_over.Goals as goal

pub returns : goal.returns
returns g c =
    let head = c.args.head in let lengths = c.args.lengths.now in let values = c.args.values.now in let n = length c.args.out.now in
    let is = sym c.is_part_with.ensures ∙ c.if-not-is_part_with.false in let others = c.fill_open-others in
    let left : length c.split_at_mut-open_room.result.1.now ≡ n - head = omega (arith, c.split_at_mut-open_room.ensures.back_len) in
    part-distributes head lengths values n is
    ∙ ap Ok (copied head lengths values others.result.now n c.split_at_mut-open_room.result.0.now others.new.room c.fill_starts.new.room is
    c.split_at_mut-open_room.ensures.front_len others.ensures.room others.ensures.none others.ensures.others
    (c.fill_starts.ensures ∙ (λ i. take (left i) (joined (copies_of others.result.now (c.lengths.ensures.read i))))))
