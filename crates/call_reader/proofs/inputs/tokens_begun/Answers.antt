use Rattle.call_reader.proofs.Cited.{◌+◌, ◌<◌, ◌≤◌, length, get_or, ap, ◌∙◌, arith, from_bool, get_or-take, is_white_space, goes_on}
use Rattle.call_reader.proofs.InputWalk.{at_most_one, count_more, count_of}
use Rattle.call_reader.proofs.inputs.tokens_begun.Goals as goal

pub loop-byte-preserved : goal.loop-byte-preserved
loop-byte-preserved c =
    let bytes = c.args.bytes.now in
    let i = c.loop-byte.byte-index in
    let before = from_bool (goes_on c.args.after_white_space bytes) in
    let one = c.from-count.result in
    let small : one ≤ 1 = at_most_one one _ c.from-count.ensures in
    let below : i < c.args.first = omega (arith, c.split_at.ensures.front_len) in
    let within : i < length bytes = omega (arith, c.requires.within) in
    let same = ap (λ l. get_or l i 0) c.split_at.ensures.front ∙ get_or-take c.args.first bytes i 0 below in
    let more = count_more bytes i (c.loop-byte.count + before) (count_of bytes) one c.loop-byte.is_after _ within
    (omega (arith, c.loop-byte.invariant.1)) c.from-count.ensures (c.is_white_space-is_white_space.ensures ∙ ap is_white_space same) in
    (omega (arith, c.loop-byte.invariant.0), omega (arith, more))
