use Rattle.std.proofs.Common.{◌∙◌, Ok, ap, length, sym}
use Rattle.cvl_base.proofs.Elementwise.{if_as_long-fits}
use Rattle.cvl_base.specs.Permutes.{all_destinations}
use Rattle.permute_parts.specs.Ranges.{part_of}
use Rattle.permute_parts.proofs.Passed.{is-part, passes}
use Rattle.permute_parts.proofs.ranges.part_default_permute.Goals as goal

pub returns : goal.returns
returns g c =
    let told = c.write_part-count.ensures in
    let part = is-part (length c.args.source.now) (length c.args.index.now) c.args.from (length c.args.out.now) (length c.args.marks.now) c.in_ok-check_part.ensures in
    passes _ _ _ _ _ _ part ∙ if_as_long-fits c.args.defaults.now c.args.out.now _ c.in_ok-check_agree.ensures
    ∙ ap (λ room. Ok (part_of c.args.source.now (all_destinations c.args.index.now) c.args.from room c.args.marks.now)) (sym c.copy_from_slice.ensures.after)
    ∙ (λ i. Ok (sym told.written i, sym told.marked i, sym told.counted i))
