-- The pieces of a plan's tiles, each of which was given once.
-- Source: what the definitions of Pieces imply.
use Rattle.std.proofs.Common.{◌≡◌, ap, ◌∙◌, ℕ, ◌<◌, List, length, get_or}
use Rattle.tile_plan.specs.Pieces.{AreAllPieces}
use Rattle.tile_plan.specs.Ranges.{tile_count, length_of}
use Rattle.crew.specs.Pieces.{ArePiecesOf}

module _ {T : Type 0} (len tile : ℕ) (items : ℕ → List T) (lengths : (t : ℕ) → t < tile_count len tile → length (items t) ≡ length_of len tile t) where
  pub all_pieces : (given : ℕ → ℕ) (pieces : List (ℕ × List T)) → ArePiecesOf (tile_count len tile) items given pieces → ((t : ℕ) → t < tile_count len tile → given t ≡ 1)
      → AreAllPieces len tile pieces
  all_pieces given pieces all once = record {
    of_tiles = all.of_work;
    once = λ t below. all.one_each t ∙ once t below;
    as_long = λ k p within. ap length (all.as_meant k p within) ∙ lengths (get_or pieces k p).0 (all.of_work k p within);
  }
