use Rattle.std.proofs.Common.{◌≡◌, ◌≤◌, ◌++◌, length, take}
use Rattle.std.specs.List.{concat}
use Rattle.value_texts.specs.Texts.{spaced}
use Rattle.script_runs.proofs.PutInParts.{IsPutUpTo}
use Rattle.script_runs.proofs.long_texts.put_spaced.Given as goal

-- the texts before those of the pieces that are ready are put, what is left is these and the texts of the rest, and there are as
-- many pieces as before
abbrev pub invariant-loop-rest : goal.invariant-loop-rest
invariant-loop-rest g l = record {
  put : IsPutUpTo (spaced g.T.Written.text_of l.xs) (concat (take l.count l.ready.items) ++ spaced g.T.Written.text_of l.rest)
      (g.S.Sink.seen l.initial.sink) (g.S.Sink.seen l.sink);
  within : l.count ≤ length l.ready.items;
  ready : length l.ready.items ≡ length l.initial.ready.items;
  spare : length l.spare.items ≡ length l.initial.ready.items;
}

abbrev pub decreases-loop-rest : goal.decreases-loop-rest
decreases-loop-rest g l = length l.rest
