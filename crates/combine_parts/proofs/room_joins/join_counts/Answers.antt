use Rattle.std.proofs.Common.{◌≡◌, ◌∙◌, Err, ap, false, length, subst, sym}
use Rattle.cvl_base.proofs.Rooms.{told}
use Rattle.combine_parts.proofs.JoinedCounts.{counts_outside}
use Rattle.combine_parts.specs.RoomJoins.{lie_within}
use Rattle.combine_parts.proofs.room_joins.join_counts.Goals as goal

pub returns-in_err-check_rooms : goal.returns-in_err-check_rooms
returns-in_err-check_rooms c =
    let memory = c.args.memory.now in let n = length c.args.out.now in
    let outside = subst (λ starts. lie_within (length memory) c.args.from n starts ≡ false) c.starts_of-starts.ensures c.in_err-check_rooms.ensures.1 in
    told _ c.from_residual.result c.in_err-check_rooms.field-0.0 c.args.out.now c.from_residual.ensures.1
    (counts_outside c.args.from c.args.boundaries.now memory n outside ∙ ap Err (sym c.in_err-check_rooms.ensures.0))
