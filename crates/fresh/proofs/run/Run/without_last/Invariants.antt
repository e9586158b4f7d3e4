use Rattle.fresh.proofs.Cited.{◌≡◌, ◌+◌, ◌-◌, length, take, stretch}
use Rattle.fresh.proofs.run.Run.without_last.Given as goal

abbrev pub invariant-loop : goal.invariant-loop
invariant-loop g l = l.self ≡ stretch l.fn.self.block l.fn.self.first (take (length l.fn.self.items - l.counter) l.fn.self.items) (l.fn.self.room + l.counter)
