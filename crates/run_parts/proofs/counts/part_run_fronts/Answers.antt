use Rattle.std.proofs.Common.{◌∙◌, ◌≤◌, ◌+◌, ap, arith, drop, length, nat_lt, pos, rules, sym, w32, Ok}
use Rattle.std.proofs.lemmas.Bool.{le-ltb, ltb-false}
use Rattle.std.proofs.lemmas.Int.{to_z_pos}
use Rattle.std.proofs.lemmas.List.{length-drop}
use Rattle.cvl_base.specs.declared.fault.FaultNo.TheVariants as no
use Rattle.cvl_base.specs.Faults.{fault}
use Rattle.cvl_base.specs.Gives.{fault_if}
use Rattle.cvl_base.specs.Limits.{most_places}
use Rattle.run_lengths.specs.Runs.{runs_of}
use Rattle.run_lengths.proofs.Counted.{most_runs}
use Rattle.run_parts.specs.Runs.{in_front_of, range_of, runs_behind}
use Rattle.run_parts.proofs.Ranges.{by-ends, length-range}
use Rattle.run_parts.proofs.counts.part_run_fronts.Goals as goal

pub overflow_cast-result : goal.overflow_cast-result
overflow_cast-result g c =
    let from = c.args.from in let head = c.args.head in let a = c.args.a.now in let n = c.going_on_in_head.result in
    let there : from + head ≤ length a = ltb-false (length a) (from + head) (sym c.lacks_range.ensures ∙ c.if-lacks_range.false) in
    let count = c.count_runs.ensures ∙ ap (λ ys. length (runs_of g.D.Binary.value ys)) (by-ends from head n a c.going_on_in_head.ensures.within) in
    let few : c.count_runs.result ≤ 2147483647 =
    omega (arith, count, most_runs g.D.Binary.value (drop n (range_of from head a)), length-drop n (range_of from head a), length-range from head a there, there, c.in_ok-check_limit.ensures) in
    search (rules, few)

pub returns : goal.returns
returns g c =
    let from = c.args.from in let head = c.args.head in let a = c.args.a.now in let n = c.going_on_in_head.result in
    let value = length (runs_behind g.D.Binary.value (in_front_of from a) (range_of from head a)) in
    let there : from + head ≤ length a = ltb-false (length a) (from + head) (sym c.lacks_range.ensures ∙ c.if-lacks_range.false) in
    let count = c.count_runs.ensures ∙ ap (λ ys. length (runs_of g.D.Binary.value ys)) (by-ends from head n a c.going_on_in_head.ensures.within) in
    let few : c.count_runs.result ≤ 2147483647 =
    omega (arith, count, most_runs g.D.Binary.value (drop n (range_of from head a)), length-drop n (range_of from head a), length-range from head a there, there, c.in_ok-check_limit.ensures) in
    ap Ok (to_z_pos w32 c.count_runs.result (omega (arith, few)) ∙ ap pos (count ∙ ap length (sym c.going_on_in_head.ensures.begin)))
    ∙ sym (ap (λ b. fault_if b (fault no.LengthMismatch) (Ok (pos value))) (sym c.lacks_range.ensures ∙ c.if-lacks_range.false))
    ∙ sym (ap (λ b. fault_if b (fault no.TooLong) (fault_if (nat_lt (length a) (from + head)) (fault no.LengthMismatch) (Ok (pos value)))) (le-ltb most_places (length a) c.in_ok-check_limit.ensures))
