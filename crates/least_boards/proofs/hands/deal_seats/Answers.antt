use Rattle.least_boards.proofs.Cited.{ap, ◌∙◌, sym, arith, length, length_push, replicate}
use Rattle.least_boards.specs.Seats.{idle_seat}
use Rattle.least_boards.proofs.Dealing.{cut_again, one_dealt, one_left}
use Rattle.least_boards.proofs.hands.deal_seats.Goals as goal

pub loop-left-preserved : goal.loop-left-preserved
loop-left-preserved g c =
    let board = c.args.table.now.table_id in
    let seats = c.loop-left.seats.items in
    let inv = c.loop-left.invariant in
    let split = c.split_seat-seat.ensures in
    let new = g.M.Split.right c.args.whole.me.0 in
    let more = one_dealt seats c.split_seat-seat.result.table_id board c.split_seat-seat.result.me.0 new inv.2 (split.3 ∙ inv.3) (ap (λ v. v.0) split.4 ∙ inv.5) in
    let long = ap length c.in_ok-push.ensures.items ∙ length_push seats (idle_seat c.split_seat-seat.result.table_id c.split_seat-seat.result.me.0) in
    let cut = cut_again c.loop-left.whole.me.0 c.split_seat-seat.new.seat.me.0 c.loop-left.left (ap (λ v. v.0) split.2) inv.6 in (
      omega arith,
      omega (arith, long, inv.1),
      c.in_ok-push.ensures.items ∙ more ∙ ap (λ n. replicate n (idle_seat board new)) (sym long),
      split.0 ∙ inv.3,
      ap (λ v. v.1) split.2 ∙ inv.4,
      cut.1 ∙ inv.5,
      cut.0,
    )

pub returns : goal.returns
returns g c =
    let board = c.args.table.now.table_id in
    let whole = c.loop-left.whole in
    let inv = c.loop-left.invariant in
    let new = g.M.Split.right c.args.whole.me.0 in
    c.in_ok-push-2.ensures.items
    ∙ one_dealt c.loop-left.seats.items whole.table_id board whole.me.0 new inv.2 inv.3 (one_left whole.me.0 c.loop-left.left (omega (arith, inv.0)) inv.6 ∙ inv.5)
    ∙ ap (λ n. replicate n (idle_seat board new)) (omega (arith, inv.0, inv.1))
