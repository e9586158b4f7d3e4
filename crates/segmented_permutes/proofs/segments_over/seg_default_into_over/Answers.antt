use Rattle.std.proofs.Common.{◌∙◌, ap, arith, length, refl, sym, Err}
use Rattle.cvl_base.specs.declared.refused.Refused.TheVariants as refused
use Rattle.cvl_base.specs.Rooms.{in_room}
use Rattle.permute_walks.proofs.Told.{told_or}
use Rattle.segment_sends.proofs.Through.{places-all}
use Rattle.segmented_permutes.proofs.Whole.{few_sent, seg_default-differ, seg_default_sent}
use Rattle.segmented_permutes.proofs.segments_over.seg_default_into_over.Goals as goal

pub permuted_over-requires-clause-few : goal.permuted_over-requires-clause-few
permuted_over-requires-clause-few g c κs within =
    few_sent c.args.source_d.now c.args.default_d.now c.args.index.now _ c.requires.in_limit c.in_ok-check_total-2.ensures.agrees (omega (arith, c.in_ok-check_agree.ensures))

pub permuted_over-requires-clause-whole : goal.permuted_over-requires-clause-whole
permuted_over-requires-clause-whole g c κs within =
    places-all c.args.source_d.now c.args.default_d.now c.args.index.now (omega (arith, c.in_ok-check_agree.ensures)) ∙ c.in_ok-check_total-3.ensures.agrees

pub returns-in_err-check_agree : goal.returns-in_err-check_agree
returns-in_err-check_agree g c =
    let differ = c.in_err-check_agree.ensures in
    told_or _ c.from_residual-in_err-check_agree.result (refused.Fault c.in_err-check_agree.field-0.0) c.args.out.now c.from_residual-in_err-check_agree.ensures.1 (
      ap (in_room (length c.args.out.now))
          (seg_default-differ c.args.source.now c.args.index.now c.args.source_d.now c.in_ok-check_total.ensures.agrees c.in_ok-check_total-2.ensures.agrees c.args.defaults.now c.args.default_d.now
          c.in_ok-check_total-3.ensures.agrees (λ same. differ.1 (c.count.ensures.value ∙ same ∙ sym c.count-2.ensures.value)))
          ∙ ap Err (sym differ.0),
      refl,
    )

pub returns : goal.returns
returns g c =
    c.permuted_over.ensures _
    (seg_default_sent c.args.source.now c.args.index.now c.args.source_d.now c.in_ok-check_total.ensures.agrees c.in_ok-check_total-2.ensures.agrees c.requires.in_limit c.args.defaults
    c.args.default_d.now c.in_ok-check_total-3.ensures.agrees (omega (arith, c.in_ok-check_agree.ensures)))
