use Rattle.std.proofs.Common.{subst, sym}
use Rattle.cvl_base.specs.Rooms.{OverwritesFront}
use Rattle.run_lengths.proofs.InSegments.{seg_runs-fits}
use Rattle.run_lengths.proofs.segments.seg_run_numbers_over.Goals as goal

pub returns : goal.returns
returns g c =
    let call = c.segments_over in
    subst (λ meaning. OverwritesFront meaning call.result c.args.out.now call.new.out c.args.count.now call.new.count)
    (sym (seg_runs-fits g.N.RunNumber.number g.D.Binary.value c.args.a.now c.args.d.now c.in_ok-check_total.ensures.agrees)) call.ensures
