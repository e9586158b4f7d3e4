use Rattle.std.proofs.Common.{refl, arith}
use Rattle.std.proofs.lemmas.Result.{IfOk-at_ok}
use Rattle.crew.proofs.Crews.{Ends, crewed_both, new_front, new_back, one_ends}
use Rattle.crew.proofs.together.+crew.Goals as goal

pub run_both-returns : goal.run_both-returns
run_both-returns g t c =
    let w = g.W.Work in
    let work = c.args.work.now in
    let front = IfOk-at_ok (λ crewed. Ends (w.count work) (w.items work) (w.IsSeat work) (w.HasFact work) w.given w.is_done c.args.with_pieces
    (λ p. (p.tile, p.items.items)) _ crewed.seats.items crewed.pieces.items) c.in_ok-front.was c.join-back.ensures.second in
    let back = IfOk-at_ok (λ crewed. Ends (w.count work) (w.items work) (w.IsSeat work) (w.HasFact work) w.given w.is_done c.args.with_pieces
    (λ p. (p.tile, p.items.items)) _ crewed.seats.items crewed.pieces.items) c.in_ok-back.was c.join-back.ensures.first in
    crewed_both (w.count work) (w.items work) (w.IsSeat work) (w.HasFact work) w.given w.is_done c.args.with_pieces (λ p. (p.tile, p.items.items))
    c.both.result (λ crewed. crewed.seats.items) (λ crewed. crewed.pieces.items) _ _ _ _ _ _ _ c.both.ensures.seats c.both.ensures.pieces refl front back

pub run_from-run_both-requires-clause-seats : goal.run_from-run_both-requires-clause-seats
run_from-run_both-requires-clause-seats g t c κs within =
    rw c.in_ok-others.ensures.items (new_front (g.W.Work.IsSeat c.args.work.now) g.W.Work.given c.args.seats.items _ (omega arith) (omega arith) c.requires.seats)

pub run_from-run_both-requires-clause-others : goal.run_from-run_both-requires-clause-others
run_from-run_both-requires-clause-others g t c κs within =
    rw c.in_ok-others.ensures.tail (new_back (g.W.Work.IsSeat c.args.work.now) g.W.Work.given c.args.seats.items _ (omega arith) c.requires.seats)

pub run_from-returns-then-len-eq1 : goal.run_from-returns-then-len-eq1
run_from-returns-then-len-eq1 g t c =
    let w = g.W.Work in
    let work = c.args.work.now in
    one_ends (w.count work) (w.items work) (w.IsSeat work) (w.HasFact work) w.given w.is_done c.args.with_pieces (λ p. (p.tile, p.items.items))
    _ c.args.seats.items c.take_tiles.new.seat c.in_ok-pieces.pieces.items (omega arith) (omega arith)
    c.in_ok-pieces.ensures.of_board c.in_ok-pieces.ensures.done c.in_ok-pieces.ensures.facts c.in_ok-pieces.ensures.pieces
