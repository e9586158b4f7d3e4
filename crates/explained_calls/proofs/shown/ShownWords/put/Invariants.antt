use Rattle.std.proofs.Common.{◌≡◌, ◌++◌, length, map}
use Rattle.std.specs.List.{concat}
use Rattle.explained_calls.specs.Shown.{characters, shown_character}
use Rattle.explained_calls.proofs.shown.ShownWords.put.Given as goal

abbrev pub invariant-loop-character : goal.invariant-loop-character
invariant-loop-character g l =
    l.text.items ++ concat (map shown_character (characters l.rest)) ≡ l.initial.text.items ++ concat (map shown_character (characters l.self.0.now))

abbrev pub decreases-loop-character : goal.decreases-loop-character
decreases-loop-character g l = length l.rest
