use Rattle.part_calls.proofs.Cited.{◌∙◌, Ok, arith, eq-eqb, length, sym, length-flagged_destinations}
use Rattle.part_calls.proofs.Checked.{after_limits}
use Rattle.part_calls.proofs.sender_ranges.select_senders_range.Goals as goal

pub write_counted-requires-clause-few : goal.write_counted-requires-clause-few
write_counted-requires-clause-few c =
    omega (arith, length-flagged_destinations c.args.index.now c.args.flags.now c.in_ok-check_agree.ensures, c.in_ok-check_few.ensures)

pub returns : goal.returns
returns c =
    let told = c.write_counted.ensures in let index = c.args.index.now in
    after_limits index c.args.lowest (length c.args.out.now) c.in_ok-check_few.ensures c.in_ok-check_end.ensures _
    ∙ rw (eq-eqb (length index) (length c.args.flags.now) c.in_ok-check_agree.ensures) (λ i. Ok (sym told.written i, sym told.counted i))
