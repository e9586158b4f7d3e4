use Rattle.std.proofs.Common.{◌∙◌, Ok, arith, length, sym}
use Rattle.cvl_base.proofs.Elementwise.{if_as_long-fits}
use Rattle.cvl_base.proofs.Permutes.{length-flagged_destinations}
use Rattle.permute_parts.proofs.Passed.{is-part, passes}
use Rattle.permute_parts.proofs.ranges.part_select_permute.Goals as goal

pub write_part-requires-clause-sourced : goal.write_part-requires-clause-sourced
write_part-requires-clause-sourced g c =
    let part = is-part (length c.args.source.now) (length c.args.index.now) c.args.from (length c.args.out.now) (length c.args.marks.now) c.in_ok-check_part.ensures in
    omega (arith, length-flagged_destinations c.args.index.now c.args.flags.now c.in_ok-check_agree.ensures, part.agree)

pub write_part-requires-clause-few : goal.write_part-requires-clause-few
write_part-requires-clause-few g c =
    let part = is-part (length c.args.source.now) (length c.args.index.now) c.args.from (length c.args.out.now) (length c.args.marks.now) c.in_ok-check_part.ensures in
    omega (arith, length-flagged_destinations c.args.index.now c.args.flags.now c.in_ok-check_agree.ensures, part.few)

pub returns : goal.returns
returns g c =
    let told = c.write_part.ensures in
    let part = is-part (length c.args.source.now) (length c.args.index.now) c.args.from (length c.args.out.now) (length c.args.marks.now) c.in_ok-check_part.ensures in
    passes _ _ _ _ _ _ part ∙ if_as_long-fits c.args.index.now c.args.flags.now _ c.in_ok-check_agree.ensures ∙ (λ i. Ok (sym told.written i, sym told.marked i, sym told.counted i))
