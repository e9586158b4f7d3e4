use Rattle.pack_dist.proofs.Cited.{subst, sym}
use Rattle.cvl_base.specs.Rooms.{OverwritesFront}
use Rattle.pack_dist.proofs.Segments.{seg_pack-fits}
use Rattle.pack_dist.proofs.segment_packs.seg_pack_values_over.Goals as goal

pub returns : goal.returns
returns g c =
    let call = c.kept_over in
    subst (λ meaning. OverwritesFront meaning call.result c.args.out.now call.new.out c.args.count.now call.new.count)
    (sym (seg_pack-fits c.args.values.now c.args.flags.now c.args.d.now c.in_ok-check_total.ensures.agrees c.in_ok-check_total-2.ensures.agrees)) call.ensures
