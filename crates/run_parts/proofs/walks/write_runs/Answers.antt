use Rattle.std.proofs.Common.{rules, ◌≡◌, ◌∙◌, ◌+◌, ◌≤◌, ap, arith, length, subst}
use Rattle.cvl_base.specs.Rooms.{Overwrites, at_front}
use Rattle.run_lengths.specs.Runs.{runs_of}
use Rattle.run_lengths.proofs.Counted.{most_runs}
use Rattle.run_parts.specs.Runs.{lengths_of_runs}
use Rattle.run_parts.proofs.Written.{front_put, in_front, length-lengths, lengths-are, rest_kept}
use Rattle.run_parts.proofs.walks.write_runs.Goals as goal

pub overflow_add-result : goal.overflow_add-result
overflow_add-result g c =
    let runs = runs_of g.D.Binary.value c.args.a.now in
    let count : c.run_numbers_over.new.count ≡ length runs = c.run_numbers_over.ensures.1 ∙ ap length (lengths-are 0 runs) ∙ length-lengths runs in
    let within : c.args.from + c.run_numbers_over.new.count ≤ length c.args.own.now = omega (arith, count, most_runs g.D.Binary.value c.args.a.now, c.requires.fits) in
    search (rules, within)

pub returns-clause-end : goal.returns-clause-end
returns-clause-end g c =
    let runs = runs_of g.D.Binary.value c.args.a.now in
    ap (λ n. c.args.from + n) (c.run_numbers_over.ensures.1 ∙ ap length (lengths-are 0 runs) ∙ length-lengths runs)

pub returns-clause-written : goal.returns-clause-written
returns-clause-written g c =
    let runs = runs_of g.D.Binary.value c.args.a.now in let xs = lengths_of_runs runs in let split = c.split_at_mut-done in let call = c.run_numbers_over in
    let count : call.new.count ≡ length xs = call.ensures.1 ∙ ap length (lengths-are 0 runs) in
    let fits : length xs ≤ length split.result.1.now =
    omega (arith, length-lengths runs, most_runs g.D.Binary.value c.args.a.now, c.requires.fits, split.ensures.back_len) in
    let new = in_front split.result.1.now xs call.new.out call.result fits
    (subst (λ ys. Overwrites (at_front split.result.1.now ys) call.result split.result.1.now call.new.out) (lengths-are 0 runs) call.ensures.0) in
    front_put c.args.own.now xs split.result.0.now split.result.1.now call.new.out c.args.from call.new.count (omega (arith, c.requires.fits)) split.ensures.front split.ensures.back new count

pub returns-clause-behind : goal.returns-clause-behind
returns-clause-behind g c =
    let runs = runs_of g.D.Binary.value c.args.a.now in let xs = lengths_of_runs runs in let split = c.split_at_mut-done in let call = c.run_numbers_over in
    let count : call.new.count ≡ length xs = call.ensures.1 ∙ ap length (lengths-are 0 runs) in
    let fits : length xs ≤ length split.result.1.now =
    omega (arith, length-lengths runs, most_runs g.D.Binary.value c.args.a.now, c.requires.fits, split.ensures.back_len) in
    let new = in_front split.result.1.now xs call.new.out call.result fits
    (subst (λ ys. Overwrites (at_front split.result.1.now ys) call.result split.result.1.now call.new.out) (lengths-are 0 runs) call.ensures.0) in
    rest_kept c.args.own.now xs split.result.0.now split.result.1.now call.new.out c.args.from call.new.count (omega (arith, c.requires.fits)) split.ensures.front split.ensures.back new count
