use Rattle.std.proofs.Common.{◌≡◌, ◌∙◌, ◌+◌, ◌++◌, ◌/◌, ◌∷◌, [], ap, arith, get_or, length, sym, ℕ}
use Rattle.std.proofs.lemmas.List.{take_all, take_more_set}
use Rattle.text_parts.proofs.Numbered.{length-numbered, numbered-more}
use Rattle.text_parts.specs.Rooms.{integers_begin, read_rooms_of}
use Rattle.text_parts.proofs.rooms.write_read_rooms.Goals as goal

pub loop-k-preserved : goal.loop-k-preserved
loop-k-preserved c =
    let from = c.args.from.now in let k = c.loop-k.k in let n = (get_or from k 0 + k) / 2 in
    take_more_set c.loop-k.rooms k n (omega (arith, c.loop-k-test.true, c.requires.room, c.loop-k.auto.rooms))
    ∙ ap (λ ns. ns ++ n ∷ []) c.loop-k.invariant
    ∙ sym (numbered-more (λ (p : ℕ × ℕ). integers_begin p.0 p.1) from k 0 c.loop-k-test.true)

pub returns : goal.returns
returns c =
    let from = c.args.from.now in let k = c.loop-k.k in
    let long : length (read_rooms_of from) ≡ length from = length-numbered (λ (p : ℕ × ℕ). integers_begin p.0 p.1) from in
    sym (take_all k c.loop-k.rooms (omega (arith, c.loop-k-test.false, c.requires.room, c.loop-k.auto.rooms)))
    ∙ c.loop-k.invariant ∙ take_all k (read_rooms_of from) (omega (arith, c.loop-k-test.false, long))
