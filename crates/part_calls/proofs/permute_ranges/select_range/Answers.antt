use Rattle.part_calls.proofs.Cited.{◌∙◌, Ok, arith, eq-eqb, length, sym, length-flagged_destinations, words_for}
use Rattle.part_calls.proofs.Checked.{after_sends}
use Rattle.part_calls.proofs.permute_ranges.select_range.Goals as goal

pub write_counted-requires-clause-sourced : goal.write_counted-requires-clause-sourced
write_counted-requires-clause-sourced g c =
    omega (arith, length-flagged_destinations c.args.index.now c.args.flags.now c.in_ok-check_agree-2.ensures, c.in_ok-check_agree.ensures)

pub write_counted-requires-clause-few : goal.write_counted-requires-clause-few
write_counted-requires-clause-few g c =
    omega (arith, length-flagged_destinations c.args.index.now c.args.flags.now c.in_ok-check_agree-2.ensures, c.in_ok-check_few.ensures)

pub returns : goal.returns
returns g c =
    let told = c.write_counted.ensures in let index = c.args.index.now in let out = c.args.out.now in
    after_sends index c.args.lowest (length out) c.in_ok-check_few.ensures c.in_ok-check_end.ensures _ c.args.source.now c.in_ok-check_agree.ensures
    ∙ rw (
      eq-eqb (length index) (length c.args.flags.now) c.in_ok-check_agree-2.ensures,
      eq-eqb (words_for (length out)) (length c.args.marks.now) (sym c.words_for.ensures ∙ c.in_ok-check_agree-3.ensures),
    )
    (λ i. Ok (sym told.written i, sym told.marked i, sym told.counted i))
