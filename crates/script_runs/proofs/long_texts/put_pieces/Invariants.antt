use Rattle.std.proofs.Common.{drop}
use Rattle.std.specs.List.{concat}
use Rattle.script_runs.proofs.PutInParts.{IsPutUpTo}
use Rattle.script_runs.proofs.long_texts.put_pieces.Given as goal

-- the pieces before this one are put
abbrev pub invariant-loop-piece : goal.invariant-loop-piece
invariant-loop-piece g l =
    IsPutUpTo (concat l.pieces) (concat (drop l.piece-index l.pieces)) (g.S.Sink.seen l.initial.sink) (g.S.Sink.seen l.sink)
