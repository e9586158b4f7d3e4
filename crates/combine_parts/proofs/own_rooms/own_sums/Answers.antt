use Rattle.std.proofs.Common.{◌≡◌, ◌∙◌, ◌+ℤ◌, Ok, Err, pos, replicate, subst, sym}
use Rattle.std.specs.Prelude.{MatchResult}
use Rattle.combining_permutes.specs.CombiningPermutes.{combine_of}
use Rattle.combine_parts.proofs.OwnTold.{own_told}
use Rattle.combine_parts.proofs.own_rooms.own_sums.Goals as goal

pub returns : goal.returns
returns c =
    let source = c.args.source.now in let index = c.args.index.now in let parts = c.split_at_mut-room.ensures in
    own_told ◌+ℤ◌ source index c.in_ok-check_own.ensures.fits.2 (pos 0) c.args.places c.args.memory.now (sym c.in_ok-check_own.ensures.answer) c.add_own.new.room
    c.split_at_mut-room.result.1.now (c.add_own.auto.room ∙ parts.front_len) parts.back c.add_own.result
    (subst (λ n. MatchResult c.add_own.result (λ _. combine_of ◌+ℤ◌ source index (replicate n (pos 0)) ≡ Ok c.add_own.new.room)
    (λ f. combine_of ◌+ℤ◌ source index (replicate n (pos 0)) ≡ Err f)) parts.front_len c.add_own.ensures)
