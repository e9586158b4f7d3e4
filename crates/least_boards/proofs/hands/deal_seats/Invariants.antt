use Rattle.least_boards.proofs.Cited.{◌≡◌, ◌≤◌, ◌+◌, ◌-◌, [], length, replicate}
use Rattle.least_boards.specs.Seats.{StandsFor, idle_seat}
use Rattle.least_boards.proofs.hands.deal_seats.Given as goal

-- so many seats are left to be dealt out, and the seat that is cut stands for all of them
abbrev pub invariant-loop-left : goal.invariant-loop-left
invariant-loop-left g l =
    (1 ≤ l.left)
    × (length l.seats.items + l.left ≡ l.workers)
    × (l.seats.items ≡ replicate (length l.seats.items) (idle_seat l.table.table_id (g.M.Split.right l.fn.whole.me.0)))
    × (l.whole.table_id ≡ l.table.table_id)
    × (l.whole.me.1 ≡ [])
    × (g.M.Split.right l.whole.me.0 ≡ g.M.Split.right l.fn.whole.me.0)
    × StandsFor g.P.Handed.hand g.M.Split.left g.M.Split.right (g.R.TableRule.holds l.table.key) l.whole.me.0 l.left

abbrev pub decreases-loop-left : goal.decreases-loop-left
decreases-loop-left g l = l.left - 1
