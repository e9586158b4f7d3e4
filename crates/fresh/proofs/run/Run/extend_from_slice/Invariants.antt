use Rattle.fresh.proofs.Cited.{◌≡◌, take, with_items}
use Rattle.fresh.proofs.run.Run.extend_from_slice.Given as goal

abbrev pub invariant-loop-item : goal.invariant-loop-item
invariant-loop-item g l = l.self ≡ with_items l.fn.self (take l.item-index l.items)
