-- There is a place of words for each part.
use Rattle.std.proofs.Common.{◌≡◌, ◌∙◌, ℕ, List, length}
use Rattle.std.proofs.lemmas.List.{length-map}
use Rattle.std.proofs.lemmas.List.FromFn.{length-enumerate_from}
use Rattle.std.specs.List.{enumerate_from}
use Rattle.permute_parts.specs.Marks.{mark_place, mark_places_of}

pub length-mark_places : (from : List ℕ) → length (mark_places_of from) ≡ length from
length-mark_places from = length-map (enumerate_from 0 from) (λ (p : ℕ × ℕ). mark_place p.0 p.1) ∙ length-enumerate_from 0 from
