use Rattle.boards.proofs.Cited.{◌∙◌, ap, ◌≤◌, arith, known_at, told_state, state_of}
use Rattle.boards.proofs.Walking.{find_silent}
use Rattle.boards.proofs.board.ScanBoard.find.Goals as goal

pub returns-in-Silent-clause-step : goal.returns-in-Silent-clause-step
returns-in-Silent-clause-step g c =
    -- a silent tile is one of which nothing was known
    let silent_known : known_at c.args.at c.args.seat.now.pass ≤ 0 = omega (arith, ap state_of c.in-Silent.is) in
    find_silent c.args.at c.args.seat.now.pass c.tell_known_sum.new.seat.pass
    (ap (λ s. s.pass) c.tell_known_sum.ensures.told ∙ ap (λ s. told_state s.pass c.args.at 1) c.in-Silent.ensures.seen) silent_known
