use Rattle.std.proofs.Common.{◌≡◌, drop}
use Rattle.explained_calls.specs.Misplaced.{wanting_each}
use Rattle.explained_calls.proofs.misplaced.wanting_each.Given as goal

abbrev pub invariant-loop-token : goal.invariant-loop-token
invariant-loop-token l = wanting_each l.wanted l.tokens ≡ wanting_each l.wanted (drop l.token-index l.tokens)
