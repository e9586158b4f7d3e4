use Rattle.fresh.proofs.Cited.{◌≡◌, replicate, with_items}
use Rattle.fresh.proofs.run.Run.push_copies.Given as goal

abbrev pub invariant-loop : goal.invariant-loop
invariant-loop g l = l.self ≡ with_items l.fn.self (replicate l.counter l.item)
