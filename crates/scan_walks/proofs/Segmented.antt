-- The scans and reduces of segments, where the lengths fit the elements and where they don't.
use Rattle.scan_walks.proofs.Cited.{◌≡◌, ◌∙◌, ℕ, List, length, ap, Ok, Err, sum, length-map, fold_of, scan_of, cut_of, in_vector, one_each, length-cut, nest-fits, scans_of, reduces_of, Fault, nest}
use Rattle.cvl_base.proofs.Segmented.{results-ok}
use Rattle.cvl_base.specs.SegmentedCalls.{seg_scan_of, seg_reduce_of}

module _ {Item : Type 0} (join : Item → Item → Item) (unit : Item) (xs : List Item) (lengths : List ℕ) where
  pub seg_scan-fits : sum lengths ≡ length xs → seg_scan_of join unit xs lengths ≡ Ok (scans_of join unit lengths xs)
  seg_scan-fits fits = cc (nest-fits lengths xs fits, results-ok (in_vector lengths) (scan_of join unit) 0 (cut_of lengths xs))

  pub seg_reduce-fits : sum lengths ≡ length xs → seg_reduce_of join unit xs lengths ≡ Ok (reduces_of join unit lengths xs)
  seg_reduce-fits fits = cc (nest-fits lengths xs fits, results-ok (in_vector lengths) (fold_of join unit) 0 (cut_of lengths xs))

  pub length-reduces_of : length (reduces_of join unit lengths xs) ≡ length lengths
  length-reduces_of = length-map (cut_of lengths xs) (fold_of join unit) ∙ length-cut lengths xs

  pub seg_reduce-misfits : (f : Fault) → nest lengths xs ≡ Err f → seg_reduce_of join unit xs lengths ≡ Err f
  seg_reduce-misfits f misfits = ap (one_each (in_vector lengths) (λ ys. Ok (fold_of join unit ys))) misfits
