use Rattle.std.proofs.Common.{◌≡◌, ◌∙◌, ◌≤◌, ap, arith, length, refl, sym, Err}
use Rattle.cvl_base.specs.Nests.{cut_of}
use Rattle.cvl_base.proofs.Rooms.{at_front-short}
use Rattle.run_lengths.specs.Runs.{numbers_from, runs_in}
use Rattle.run_lengths.proofs.Fronts.{at_front-fits, length-numbers}
use Rattle.run_lengths.proofs.InSegments.{most_in}
use Rattle.run_lengths.proofs.segments.segments_over.Goals as goal
use Rattle.run_lengths.proofs.segments.segments_over.Goals.{then-out-a+else-runs-out, else-out-a}

pub returns-then-runs-out : goal.returns-then-runs-out
returns-then-runs-out g c =
    let number = g.N.RunNumber.number in
    let runs = runs_in g.D.Binary.value (cut_of c.args.d.now c.args.a.now) in
    let count : c.count_segments-runs.result ≡ length (numbers_from number 0 runs) = c.count_segments-runs.ensures ∙ sym (length-numbers number 0 runs) in
    ((at_front-short c.args.out.now (numbers_from number 0 runs) (omega (arith, count, c.if-runs-out.true)) ∙ ap Err (sym c.new.ensures), refl), count)

pub write_segments-requires-clause-fits : goal.write_segments-requires-clause-fits
write_segments-requires-clause-fits g c = elim c.if-out-a.branch [
  | then-out-a+else-runs-out w ↦ omega (arith, w.count_segments-runs.ensures, w.if-runs-out.false)
  | else-out-a w ↦ omega (arith, most_in g.D.Binary.value c.args.d.now c.args.a.now, w.if-out-a.false)
]

pub returns : goal.returns
returns g c =
    let number = g.N.RunNumber.number in
    let runs = runs_in g.D.Binary.value (cut_of c.args.d.now c.args.a.now) in
    let e = c.write_segments.ensures in
    let many : c.write_segments.result ≡ length (numbers_from number 0 runs) = omega (arith, e.count, length-numbers number 0 runs) in
    let fits : length runs ≤ length c.args.out.now = elim c.if-out-a.branch [
      | then-out-a+else-runs-out w ↦ omega (arith, w.count_segments-runs.ensures, w.if-runs-out.false)
      | else-out-a w ↦ omega (arith, most_in g.D.Binary.value c.args.d.now c.args.a.now, w.if-out-a.false)
    ] in
    let within : c.write_segments.result ≤ length c.args.out.now = omega (arith, e.count, fits) in
    (at_front-fits c.args.out.now (numbers_from number 0 runs) c.write_segments.new.out c.write_segments.result many within e.written e.behind, many)
