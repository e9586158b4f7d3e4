use Rattle.std.proofs.Common.{◌≡◌, ◌∙◌, Ok, Err, ap, length, map, replicate, subst, sym}
use Rattle.std.proofs.lemmas.List.{length-map}
use Rattle.std.specs.Prelude.{MatchResult}
use Rattle.combining_permutes.specs.CombiningPermutes.{combine_of}
use Rattle.combine_parts.proofs.OwnTold.{own_told}
use Rattle.combine_parts.specs.OwnRooms.{may_own}
use Rattle.combine_parts.proofs.own_rooms.own_room.Goals as goal

pub returns : goal.returns
returns g c =
    let m = g.M.Monoid in let places = c.args.places in let index = c.args.index.now in let memory = c.args.memory.now in
    let items = map g.E.Reading.item c.args.source.now in
    let read = length-map c.args.source.now g.E.Reading.item in
    let parts = c.split_at_mut-room.ensures in
    let may = ap (λ n. may_own places n (length index) (length memory)) read ∙ sym c.in_ok-check_own.ensures.answer in
    own_told m.join items index (read ∙ c.in_ok-check_own.ensures.fits.2) m.unit places memory may c.join_own.new.room c.split_at_mut-room.result.1.now
    (c.join_own.auto.room ∙ parts.front_len) parts.back c.join_own.result
    (subst (λ n. MatchResult c.join_own.result (λ _. combine_of m.join items index (replicate n m.unit) ≡ Ok c.join_own.new.room) (λ f. combine_of m.join items index (replicate n m.unit) ≡ Err f))
    parts.front_len c.join_own.ensures)
