use Rattle.call_laws.proofs.Cited.{◌∷◌, length, [], Ok, scan_of}
use Rattle.call_laws.proofs.Segments.{flat-again, nest_one}
use Rattle.call_laws.proofs.segmented.one_segment_scanned.Goals as goal

pub returns : goal.returns
returns g c = record {
  scan = λ xs. rw (nest_one xs) (flat-again (length xs ∷ []) (λ ys. Ok (scan_of g.M.Monoid.join g.M.Monoid.unit ys)) xs);
  reduce = λ xs. rw (nest_one xs);
}
