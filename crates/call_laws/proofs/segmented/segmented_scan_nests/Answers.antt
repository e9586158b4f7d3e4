use Rattle.call_laws.proofs.Cited.{◌≡◌, ◌∙◌, length, map, sym, Ok, map-map, scan_of, in_vector, length-scan_of}
use Rattle.call_laws.proofs.CutResults.{cut-again, has-lengths}
use Rattle.call_laws.proofs.segmented.segmented_scan_nests.Goals as goal

pub returns : goal.returns
returns g c = λ xs ys lengths lists cut.
    let scan = scan_of g.M.Monoid.join g.M.Monoid.unit in
    let same : map length (map scan lists) ≡ map length lists = simp (map-map, length-scan_of g.M.Monoid.join g.M.Monoid.unit) in
    rw (cut, ← (same ∙ has-lengths lengths xs lists cut))
    (cut-again (in_vector (map length (map scan lists))) (λ xs. Ok (scan xs)) lists (map scan lists) ys (sym (map-map (λ r. Ok r) scan lists)))
