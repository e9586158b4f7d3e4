use Rattle.std.proofs.Common.{◌≡◌, ◌++◌, drop}
use Rattle.explained_calls.specs.CallWords.{listed}
use Rattle.explained_calls.proofs.call_words.ListedWords.put.Given as goal

abbrev pub invariant-loop-place : goal.invariant-loop-place
invariant-loop-place g l = l.text.items ++ listed (drop l.place l.kinds) ≡ l.initial.text.items ++ listed l.kinds
