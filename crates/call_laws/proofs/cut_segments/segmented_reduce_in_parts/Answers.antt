use Rattle.call_laws.proofs.Cited.{◌∙◌, length}
use Rattle.call_laws.proofs.Carries.{reduce-plain, reduces-between, reduces-inside}
use Rattle.call_laws.proofs.TwoParts.{two-parts}
use Rattle.call_laws.proofs.cut_segments.segmented_reduce_in_parts.Goals as goal

pub returns : goal.returns
returns g c =
    let join = g.M.Monoid.join in
    let unit = g.M.Monoid.unit in
    record {
      inside = λ carry out xs ys closed lengths more m n total also_total reduced.
          let two = reduces-inside join unit carry lengths m n more xs ys closed out total also_total reduced in
          two-parts two 0 ∙ rw two.other;
      between = λ carry xs ys k lengths more total also_total.
          rw (← reduce-plain join unit ys more) (two-parts (reduces-between join unit carry k lengths more xs ys total also_total) (length xs));
      call = reduce-plain join unit;
    }
