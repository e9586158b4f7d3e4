use Rattle.fresh.proofs.Cited.{◌≡◌, ◌+◌, List, with_items, GoWith}
use Rattle.fresh.proofs.run.Run.fill_by_sixteens.Given as goal

abbrev pub invariant-loop-left : goal.invariant-loop-left
invariant-loop-left g l =
    (l.done + l.left ≡ l.fn.self.room)
    × ((ys : List _) × GoWith (goal.F-post g l.f) 0 l.done ys × (l.self ≡ with_items l.fn.self ys))

abbrev pub decreases-loop-left : goal.decreases-loop-left
decreases-loop-left g l = l.left
