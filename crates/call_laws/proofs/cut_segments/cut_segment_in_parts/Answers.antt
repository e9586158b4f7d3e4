use Rattle.call_laws.proofs.Cited.{◌∷◌, ◌∙◌, ◌+◌, [], sym, ap, Ok, sum, in_vector, end_to_end, in_two}
use Rattle.call_laws.proofs.Segments.{flat-again}
use Rattle.call_laws.proofs.SegmentsInTwo.{lists-between, next-to}
use Rattle.call_laws.proofs.TwoParts.{in_two-assoc}
use Rattle.call_laws.proofs.cut_segments.cut_segment_in_parts.Goals as goal

pub returns : goal.returns
returns g c = λ call first whole front back others lengths more m n long cut.
    let before = end_to_end (in_vector lengths) call (Ok first) in
    let behind = end_to_end (in_vector more) call (Ok others) in
    rw (lists-between first (whole ∷ others) lengths ((m + n) ∷ more) long call, next-to call (m + n) more whole others, cut)
    (rw (lists-between first (front ∷ []) lengths (m ∷ []) long call, flat-again (m ∷ []) call front, next-to call n more back others)
    (ap (in_two (sum lengths) before) (in_two-assoc m n (call front) (call back) behind) ∙ sym (in_two-assoc (sum lengths) m before (call front) (in_two n (call back) behind))))
