use Rattle.pack_dist.proofs.Cited.{◌∙◌, Ok, sym, ap}
use Rattle.pack_dist.proofs.Segments.{seg_pack-fits}
use Rattle.pack_dist.proofs.segment_packs.seg_pack_values.Goals as goal

pub returns-clause-values : goal.returns-clause-values
returns-clause-values g c =
    seg_pack-fits c.args.values.now c.args.flags.now c.args.d.now c.in_ok-check_total.ensures.agrees c.in_ok-check_total-2.ensures.agrees
    ∙ ap (λ kept. Ok kept) (sym c.in_ok-kept.ensures.values)
