use Rattle.std.proofs.Common.{rules, ◌≡◌, ℕ, ◌+◌, ◌<◌, ◌++◌, List, ◌∷◌, ◌∙◌, ap, drop, length, sym}
use Rattle.std.specs.List.{concat, slice_index_or}
use Rattle.std.proofs.lemmas.List.{drop_more}
use Rattle.std.proofs.lemmas.Result.{err_from_is_err_and}
use Rattle.script_runs.proofs.PutInParts.{part_cut, part_put}
use Rattle.script_runs.proofs.long_texts.put_pieces.Goals as goal

-- what is left from a piece on: its text, and then what is left from the next one on
from_piece : (pieces : List (List ℕ)) (at : ℕ) (piece text : List ℕ) → at < length pieces → piece ≡ slice_index_or pieces at piece → text ≡ piece
    → concat (drop at pieces) ≡ text ++ concat (drop (at + 1) pieces)
from_piece pieces at piece text more is text_is =
    let others = drop (at + 1) pieces in
    ap concat (drop_more pieces at piece more ∙ ap (λ p. p ∷ others) (sym is)) ∙ ap (λ t. t ++ concat others) (sym text_is)

pub returns-in_err-put_all : goal.returns-in_err-put_all
returns-in_err-put_all g c =
    let more : c.loop-piece.piece-index < length c.args.pieces.now = search rules in
    let next = from_piece c.args.pieces.now c.loop-piece.piece-index c.piece-item.result c.text.result.now more c.piece-item.is c.text.ensures in
    rw (err_from_is_err_and c.from_residual.result c.from_residual.ensures.1).1
    (part_cut _ _ _ _ _ _ _ (rw next at c.loop-piece.invariant) c.in_err-put_all.ensures)

pub loop-piece-preserved : goal.loop-piece-preserved
loop-piece-preserved g c =
    let more : c.loop-piece.piece-index < length c.args.pieces.now = search rules in
    let next = from_piece c.args.pieces.now c.loop-piece.piece-index c.piece-item.result c.text.result.now more c.piece-item.is c.text.ensures in
    part_put _ _ _ _ _ _ (rw next at c.loop-piece.invariant) c.in_ok-put_all.ensures
