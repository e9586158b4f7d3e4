use Rattle.std.proofs.Common.{◌≡◌, ◌∙◌, ◌+◌, ◌-◌, ◌≤◌, Ok, ap, arith, length, pos, get_or, sym, take, true}
use Rattle.cvl_base.specs.Limits.{most_places}
use Rattle.cvl_base.specs.Lists.{joined}
use Rattle.pack_dist.specs.Lists.{progressions_of}
use Rattle.pack_dist.specs.Progressions.{numbers_from}
use Rattle.segment_fills.proofs.Numbered.{numbered, part-indexes}
use Rattle.segment_fills.proofs.Parts.{part-with}
use Rattle.segment_fills.specs.Fills.{is_part_with}
use Rattle.segment_fills.proofs.numbers.part_numbers_over.Goals as goal

pub returns : goal.returns
returns c =
    let before = c.args.done in let head = c.args.head in let lengths = c.args.lengths.now in let inits = c.args.inits.now in let strides = c.args.strides.now in
    let n = length c.args.out.now in
    let is : is_part_with head lengths (length inits) n ≡ true = sym c.is_part_with.ensures ∙ c.if-not-is_part_with.false in
    let pairs : length strides ≡ length inits = omega (arith, c.if-strides-inits.false) in
    let few : before + head ≤ most_places = omega (arith, c.if-done-gt-MOST_PLACES.false, c.if-head-done.false) in
    let starts = c.split_at_mut-open_room.result.1.now in
    let left : length starts ≡ n - head = omega (arith, c.split_at_mut-open_room.ensures.back_len) in
    let others = c.behind_open-inits in let other_strides = c.behind_open-strides in
    part-indexes before head lengths inits strides n few is pairs
    ∙ ap Ok (numbered before head lengths inits strides others.result.now other_strides.result.now n c.number_open.new.room c.number_starts.new.room
    (part-with head lengths (length inits) n is) pairs others.ensures.none others.ensures.some other_strides.ensures.none other_strides.ensures.some
    (c.number_open.ensures ∙ ap (numbers_from (get_or inits 0 (pos 0)) (get_or strides 0 (pos 0)) before) c.split_at_mut-open_room.ensures.front_len)
    (c.number_starts.ensures ∙ (λ i. take (left i) (joined (progressions_of others.result.now other_strides.result.now (c.lengths.ensures.read i))))))
