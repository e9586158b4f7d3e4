use Rattle.std.proofs.Common.{◌≡◌, ◌∙◌, ◌≤◌, ap, arith, length, refl, sym, Err}
use Rattle.cvl_base.proofs.Rooms.{at_front-short}
use Rattle.run_lengths.specs.Runs.{run_numbers_of, runs_of}
use Rattle.run_lengths.proofs.Counted.{most_runs}
use Rattle.run_lengths.proofs.Fronts.{at_front-fits, length-numbers}
use Rattle.run_lengths.proofs.flat.run_numbers_over.Goals as goal
use Rattle.run_lengths.proofs.flat.run_numbers_over.Goals.{then-out-a+else-runs-out, else-out-a}

pub returns-then-runs-out : goal.returns-then-runs-out
returns-then-runs-out g c =
    let number = g.N.RunNumber.number in
    let runs = runs_of g.D.Binary.value c.args.a.now in
    let xs = run_numbers_of number g.D.Binary.value c.args.a.now in
    let count : c.count_runs-runs.result ≡ length xs = c.count_runs-runs.ensures ∙ sym (length-numbers number 0 runs) in
    ((at_front-short c.args.out.now xs (omega (arith, count, c.if-runs-out.true)) ∙ ap Err (sym c.new.ensures), refl), count)

pub write_runs-requires-clause-fits : goal.write_runs-requires-clause-fits
write_runs-requires-clause-fits g c = elim c.if-out-a.branch [
  | then-out-a+else-runs-out w ↦ omega (arith, w.count_runs-runs.ensures, w.if-runs-out.false)
  | else-out-a w ↦ omega (arith, most_runs g.D.Binary.value c.args.a.now, w.if-out-a.false)
]

pub returns : goal.returns
returns g c =
    let number = g.N.RunNumber.number in
    let runs = runs_of g.D.Binary.value c.args.a.now in
    let xs = run_numbers_of number g.D.Binary.value c.args.a.now in
    let e = c.write_runs.ensures in
    let many : c.write_runs.result ≡ length xs = omega (arith, e.end, length-numbers number 0 runs) in
    let fits : length runs ≤ length c.args.out.now = elim c.if-out-a.branch [
      | then-out-a+else-runs-out w ↦ omega (arith, w.count_runs-runs.ensures, w.if-runs-out.false)
      | else-out-a w ↦ omega (arith, most_runs g.D.Binary.value c.args.a.now, w.if-out-a.false)
    ] in
    let within : c.write_runs.result ≤ length c.args.out.now = omega (arith, e.end, fits) in
    (at_front-fits c.args.out.now xs c.write_runs.new.out c.write_runs.result many within e.written e.behind, many)
