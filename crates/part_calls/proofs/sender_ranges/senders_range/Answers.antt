use Rattle.part_calls.proofs.Cited.{◌∙◌, Ok, arith, length, sym, length-all_destinations}
use Rattle.part_calls.proofs.Checked.{after_limits}
use Rattle.part_calls.proofs.sender_ranges.senders_range.Goals as goal

pub write_counted-requires-clause-few : goal.write_counted-requires-clause-few
write_counted-requires-clause-few c = omega (arith, length-all_destinations c.args.index.now, c.in_ok-check_few.ensures)

pub returns : goal.returns
returns c =
    let told = c.write_counted.ensures in
    after_limits c.args.index.now c.args.lowest (length c.args.out.now) c.in_ok-check_few.ensures c.in_ok-check_end.ensures _
    ∙ (λ i. Ok (sym told.written i, sym told.counted i))
