use Rattle.first_senders.proofs.Cited.{arith, length-flagged_destinations}
use Rattle.first_senders.proofs.segments.seg_select_first_senders_over.Goals as goal

pub both_walks-requires : goal.both_walks-requires
both_walks-requires c = record { in_limit = omega (arith, length-flagged_destinations c.args.index.now c.args.flags.now c.in_ok-check_agree.ensures, c.requires.in_limit) }
