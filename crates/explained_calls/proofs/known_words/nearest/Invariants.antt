use Rattle.std.proofs.Common.{◌≡◌, map, nat_lt, take}
use Rattle.std.specs.List.{best_of}
use Rattle.explained_calls.specs.Nearest.{distance}
use Rattle.explained_calls.proofs.known_words.nearest.Given as goal

abbrev pub invariant-loop-name : goal.invariant-loop-name
invariant-loop-name g l =
    (l.best ≡ best_of (λ a b. nat_lt (distance l.word a) (distance l.word b)) l.initial.best (map (λ name. name.now) (take l.name-index l.others)))
    × (l.least ≡ distance l.word l.best)
