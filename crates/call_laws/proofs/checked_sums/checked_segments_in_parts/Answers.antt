use Rattle.call_laws.proofs.Cited.{◌≡◌, ◌∷◌, ◌∙◌, ◌+ℤ◌, ◌>>=◌, ℕ, List, [], length, map, refl, sym, ℤ, pos, Ok, Err, Result, map-map, fitting, total_of, fold_of, scan_of, joined, nest, at_segment}
use Rattle.call_laws.proofs.Cited.{end_to_end, in_vector, one_each, length-scan_of, Fault, Overflow, checked_reduce_of, checked_scan_of, totals_of, each_after, in_two}
use Rattle.part_calls.specs.Sums.{all_fitting}
use Rattle.call_laws.proofs.Carries.{each-plain, reduces-between, reduces-inside, scans-between, scans-inside}
use Rattle.call_laws.proofs.CutResults.{has-lengths}
use Rattle.call_laws.proofs.SegmentsInTwo.{next-to}
use Rattle.call_laws.proofs.TwoParts.{AreTwo, values-each, values-two}
use Rattle.call_laws.proofs.checked_sums.checked_segments_in_parts.Goals as goal

two-fitting : {whole first second : Result (List ℤ) Fault} {k l : ℕ} → AreTwo whole first second k l → (whole >>= all_fitting) ≡ in_two k (first >>= all_fitting) (second >>= all_fitting)
two-fitting two = rw (two.together, two.one, two.other, ← two.many) (values-two Overflow fitting two.before two.others)

-- ---- the calls of a whole vector go on from 0

scans-tested : (segments : List (List ℤ)) → end_to_end (in_vector (map length segments)) checked_scan_of (Ok segments) ≡ all_fitting (joined (map totals_of segments))
scans-tested [] = refl
scans-tested (xs ∷ segments) =
    next-to checked_scan_of (length xs) (map length segments) xs segments
    ∙ rw (scans-tested segments, ← length-scan_of ◌+ℤ◌ (pos 0) xs) (sym (values-two Overflow fitting (totals_of xs) (joined (map totals_of segments))))

scans_by_segment : (xs : List ℤ) (lengths : List ℕ) (segments : Result (List (List ℤ)) Fault) → nest lengths xs ≡ segments
    → ((segments >>= λ ss. Ok (joined (each_after (scan_of ◌+ℤ◌) (pos 0) (pos 0) ss))) >>= all_fitting) ≡ end_to_end (in_vector lengths) checked_scan_of segments
scans_by_segment xs lengths (Ok ss) cut = rw (each-plain (scan_of ◌+ℤ◌) (pos 0) ss, ← has-lengths lengths xs ss cut) (sym (scans-tested ss))
scans_by_segment xs lengths (Err e) cut = refl

reduces_by_segment : (segments : Result (List (List ℤ)) Fault)
    → ((segments >>= λ ss. Ok (each_after (fold_of ◌+ℤ◌) (pos 0) (pos 0) ss)) >>= all_fitting) ≡ one_each at_segment checked_reduce_of segments
reduces_by_segment (Ok ss) = rw (each-plain (fold_of ◌+ℤ◌) (pos 0) ss, map-map fitting total_of ss) (values-each Overflow (λ xs. fitting (total_of xs)) 0 ss)
reduces_by_segment (Err e) = refl

pub returns : goal.returns
returns c =
    let scans = λ (xs : List ℤ) (lengths : List ℕ). scans_by_segment xs lengths (nest lengths xs) refl in
    record {
      scan = λ carry out xs ys closed lengths more m n total also_total reduced.
          two-fitting (scans-inside ◌+ℤ◌ (pos 0) carry lengths m n more xs ys closed out total also_total reduced);
      scan_between = λ carry xs ys k lengths more total also_total.
          rw (← scans ys more) (two-fitting (scans-between ◌+ℤ◌ (pos 0) carry k lengths more xs ys total also_total));
      scan_call = scans;
      -- the whole segments of the first part, which the carry goes by, and then the second part's
      reduce = λ carry out xs ys closed lengths more m n total also_total reduced.
          two-fitting (reduces-inside ◌+ℤ◌ (pos 0) carry lengths m n more xs ys closed out total also_total reduced);
      reduce_between = λ carry xs ys k lengths more total also_total.
          rw (← reduces_by_segment (nest more ys)) (two-fitting (reduces-between ◌+ℤ◌ (pos 0) carry k lengths more xs ys total also_total));
      reduce_call = λ xs lengths. reduces_by_segment (nest lengths xs);
    }
