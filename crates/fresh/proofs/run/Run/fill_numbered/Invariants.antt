use Rattle.fresh.proofs.Cited.{◌≡◌, ◌+◌, ◌-◌, ◌≤◌, List, with_items, GoWith}
use Rattle.fresh.proofs.run.Run.fill_numbered.Given as goal

abbrev pub invariant-loop-k : goal.invariant-loop-k
invariant-loop-k g l =
    (l.k-end ≡ l.start + l.fn.self.room) × (l.start ≤ l.k) × (l.k ≤ l.k-end)
    × ((ys : List _) × GoWith (goal.F-post g l.f) l.start (l.k - l.start) ys × (l.self ≡ with_items l.fn.self ys))
