use Rattle.std.proofs.Common.{map}
use Rattle.std.specs.List.{zip}
use Rattle.cvl_base.specs.Elementwise.{chosen}
use Rattle.elementwise.proofs.InPlace.{IsWritten}
use Rattle.flag_calls.proofs.choice.choose_in.Given as goal

abbrev pub invariant-loop-place : goal.invariant-loop-place
invariant-loop-place g l =
    IsWritten (map (λ p. g.O.Single.value (chosen (g.F.Single.value p.0) p.1)) (zip l.bytes (zip l.fn.over l.others))) l.fn.over l.over l.place
