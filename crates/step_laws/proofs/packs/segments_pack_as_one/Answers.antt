use Rattle.std.proofs.Common.{◌∙◌, ap, sym}
use Rattle.cvl_base.proofs.Elementwise.{if_as_long-fits}
use Rattle.cvl_base.specs.Gives.{◌>>=◌}
use Rattle.cvl_base.specs.Packs.{pack_of}
use Rattle.cvl_base.specs.SegmentedCalls.{seg_pack_of}
use Rattle.pack_dist.proofs.Segments.{seg_pack-fits}
use Rattle.step_laws.proofs.Answered.{within}
use Rattle.step_laws.proofs.packs.segments_pack_as_one.Goals as goal

pub returns : goal.returns
returns g c = λ values flags lengths segments few are fits fits_flags.
    ap (λ ls. ls >>= seg_pack_of values flags) are
    ∙ seg_pack-fits values flags segments fits fits_flags
    ∙ sym (within flags (pack_of values flags) few ∙ if_as_long-fits values flags _ (sym fits ∙ fits_flags))
