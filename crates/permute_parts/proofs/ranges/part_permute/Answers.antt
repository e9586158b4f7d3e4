use Rattle.std.proofs.Common.{◌∙◌, Ok, length, sym}
use Rattle.permute_parts.proofs.Passed.{is-part, passes}
use Rattle.permute_parts.proofs.ranges.part_permute.Goals as goal

pub returns : goal.returns
returns g c =
    let told = c.write_part.ensures in
    let part = is-part (length c.args.source.now) (length c.args.index.now) c.args.from (length c.args.out.now) (length c.args.marks.now) c.in_ok-check_part.ensures in
    passes _ _ _ _ _ _ part ∙ (λ i. Ok (sym told.written i, sym told.marked i, sym told.counted i))
