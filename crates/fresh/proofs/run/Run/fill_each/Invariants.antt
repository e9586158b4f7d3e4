use Rattle.fresh.proofs.Cited.{◌≡◌, ◌-◌, List, ◌++◌, take, AllZip, stretch}
use Rattle.fresh.proofs.run.Run.fill_each.Given as goal

abbrev pub invariant-loop-x : goal.invariant-loop-x
invariant-loop-x g l =
    (ys : List _) × AllZip (goal.F-post g l.f) (take l.x-index l.xs) ys × (l.self ≡ stretch l.fn.self.block l.fn.self.first (l.fn.self.items ++ ys) (l.fn.self.room - l.x-index))
