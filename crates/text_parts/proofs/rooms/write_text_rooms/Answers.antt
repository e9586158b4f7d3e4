use Rattle.std.proofs.Common.{◌≡◌, ◌∙◌, ◌+◌, ◌*◌, ◌++◌, ◌<◌, ◌∷◌, [], ap, arith, get_or, length, sym, take, ℕ}
use Rattle.std.proofs.lemmas.List.{take_all, take_more_set}
use Rattle.std.proofs.lemmas.Slice.Zip.{get_or-zip, length-zip}
use Rattle.std.specs.List.{zip}
use Rattle.text_parts.proofs.Numbered.{length-numbered, numbered-more}
use Rattle.text_parts.specs.Rooms.{text_begins, text_rooms_of}
use Rattle.text_parts.proofs.rooms.write_text_rooms.Goals as goal

pub loop-k-preserved : goal.loop-k-preserved
loop-k-preserved c =
    let starts = c.args.starts.now in let firsts = c.args.firsts.now in let each = c.args.each in let k = c.loop-k.k in
    let n = get_or starts k 0 * each + get_or firsts k 0 * 3 + 2 * k in
    let within : k < length (zip starts firsts) = omega (arith, c.loop-k-test.true, c.requires.as_many, length-zip starts firsts) in
    let pair = get_or-zip starts firsts k (0, 0) c.loop-k-test.true (omega (arith, c.loop-k-test.true, c.requires.as_many)) in
    take_more_set c.loop-k.rooms k n (omega (arith, c.loop-k-test.true, c.requires.room, c.loop-k.auto.rooms))
    ∙ ap (λ ns. ns ++ n ∷ []) c.loop-k.invariant
    ∙ ap (λ (p : ℕ × ℕ). take k (text_rooms_of each starts firsts) ++ text_begins each k p.0 p.1 ∷ []) (sym pair)
    ∙ sym (numbered-more (λ (p : ℕ × (ℕ × ℕ)). text_begins each p.0 p.1.0 p.1.1) (zip starts firsts) k (0, 0) within)

pub returns : goal.returns
returns c =
    let starts = c.args.starts.now in let firsts = c.args.firsts.now in let each = c.args.each in let k = c.loop-k.k in
    let long : length (text_rooms_of each starts firsts) ≡ length (zip starts firsts) =
    length-numbered (λ (p : ℕ × (ℕ × ℕ)). text_begins each p.0 p.1.0 p.1.1) (zip starts firsts) in
    sym (take_all k c.loop-k.rooms (omega (arith, c.loop-k-test.false, c.requires.room, c.loop-k.auto.rooms)))
    ∙ c.loop-k.invariant
    ∙ take_all k (text_rooms_of each starts firsts) (omega (arith, c.loop-k-test.false, long, length-zip starts firsts, c.requires.as_many))
