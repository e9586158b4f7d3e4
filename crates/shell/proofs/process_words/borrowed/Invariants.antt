use Rattle.std.proofs.Common.{◌≡◌, map, take}
use Rattle.clap.specs.Walk.{texts}
use Rattle.shell.proofs.process_words.borrowed.Given as goal

-- the texts so far are the words so far
abbrev pub invariant-loop-word : goal.invariant-loop-word
invariant-loop-word l = texts l.borrowed.items ≡ map (λ word. word.items) (take l.word-index l.words)
