use Rattle.segdes.proofs.Cited.{◌≡◌, length, map, unsigned_abs, vec_len, vec_capacity}
use Rattle.segdes.proofs.Sums.{AreStartsTo}
use Rattle.segdes.proofs.starts.starts_and_total.Given as goal

abbrev pub invariant-loop-length : goal.invariant-loop-length
invariant-loop-length g l =
    (vec_len l.starts ≡ l.length-index) × (vec_capacity l.starts ≡ length l.lengths)
    × AreStartsTo l.length-index (map unsigned_abs l.lengths) l.starts.items l.end
