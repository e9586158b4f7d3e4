use Rattle.least_boards.proofs.Cited.{◌≡◌, ◌≤◌, [], All}
use Rattle.least_boards.proofs.hands.join_seats.Given as goal

-- the seats that were taken are in one, which has what they did
abbrev pub invariant-loop-next : goal.invariant-loop-next
invariant-loop-next g l =
    (l.whole.table_id ≡ l.table.table_id)
    × (l.whole.me.1 ≡ [])
    × (1 ≤ (g.P.Handed.hand l.whole.me.0).share)
    × All (λ seat. seat.id ≡ l.table.table_id) l.seats.items
    × g.M.Gather.AreJoined l.whole.me.0 l.seats.items l.fn.seats.items

abbrev pub decreases-loop-next : goal.decreases-loop-next
decreases-loop-next g l = goal.left-loop-next g l
