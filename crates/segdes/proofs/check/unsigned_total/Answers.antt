use Rattle.std.proofs.Common.{◌∙◌, rules, get_or, pos, w32, FitsSigned, ap, map, sum, unsigned_abs, arith}
use Rattle.std.proofs.lemmas.List.{take_all}
use Rattle.segdes.proofs.Checked.{are-lengths, unsigned_more, whole}
use Rattle.segdes.proofs.check.unsigned_total.Goals as goal

pub loop-number-preserved : goal.loop-number-preserved
loop-number-preserved c =
    let numbers = c.args.numbers.now in
    let i = c.loop-number.number-index in
    let fits : FitsSigned w32 (get_or numbers i (pos 0)) = search rules in
    unsigned_more i numbers c.loop-number.total c.cast_unsigned.result c.loop-number-test.true c.loop-number.invariant (search rules) fits c.cast_unsigned.ensures

pub returns-clause-few : goal.returns-clause-few
returns-clause-few c = λ small.
    let checked = c.loop-number.invariant.checked small in (
      are-lengths _ _ _ checked (omega arith) (omega arith) _ small c.requires.few,
      whole _ _ _ checked (omega arith) (omega arith),
    )

pub returns-clause-lengths : goal.returns-clause-lengths
returns-clause-lengths c = λ are.
    c.loop-number.invariant.lengths are ∙ ap (λ ns. sum (map unsigned_abs ns)) (take_all c.loop-number.number-index c.args.numbers.now (omega arith))
