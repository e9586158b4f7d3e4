use Rattle.std.proofs.Common.{◌≡◌, map, take}
use Rattle.explanations.specs.ArgumentLines.{word_of}
use Rattle.explanations.proofs.call_faults.words_of.Given as goal

abbrev pub invariant-loop-arg : goal.invariant-loop-arg
invariant-loop-arg g l = map (λ word. word.items) l.words.items ≡ map word_of (take l.arg-index l.args)
