use Rattle.std.proofs.Common.{◌≡◌, drop, map}
use Rattle.explained_values.specs.NameFaults.{is_among}
use Rattle.explained_values.proofs.name_faults.is_among.Given as goal

abbrev pub invariant-loop-other : goal.invariant-loop-other
invariant-loop-other l =
    is_among l.word (map (λ word. word.now) l.words) ≡ is_among l.word (map (λ word. word.now) (drop l.other-index l.words))
