use Rattle.least_boards.proofs.Cited.{◌≡◌, ap, ◌∙◌, cond, arith, Some, All-pop}
use Rattle.least_boards.proofs.hands.join_seats.Goals as goal

pub loop-next-init : goal.loop-next-init
loop-next-init g c =
    let rest = All-pop (λ seat. seat.id ≡ c.args.table.now.table_id) c.args.seats.items c.pop.new.self.items (Some c.in-Some.first) c.in-Some.ensures.items c.requires.seats in (
      ap (λ s. s.id) c.first.view_is ∙ rest.1,
      c.first.invariant.0,
      omega (arith, c.first.invariant.2),
      rest.0,
      c.requires.passes.first c.args.seats.items c.pop.new.self.items c.in-Some.first c.first.inside.seat.me.0 c.in-Some.ensures.items
          (ap (λ s. s.pass) c.first.view_is, c.first.invariant.2, c.first.invariant.1 ∙ ap (λ s. cond s.is_done 1 0) c.first.view_is),
    )

pub join_seat-requires : goal.join_seat-requires
join_seat-requires g c =
    let whole = c.loop-next.whole in
    let next = c.next.inside.seat in
    let inv = c.loop-next.invariant in
    let rest = All-pop (λ seat. seat.id ≡ c.args.table.now.table_id) c.loop-next.seats.items c.pop-in-loop-next.new.self.items (Some c.in-Some-pop.next) c.in-Some-pop.ensures.items inv.3 in (
      inv.0,
      ap (λ s. s.id) c.next.view_is ∙ rest.1,
      c.next.invariant.0,
      c.requires.words,
      c.requires.joins whole.me.0 next.me.0 whole.id next.id inv.2,
    )

pub loop-next-preserved : goal.loop-next-preserved
loop-next-preserved g c =
    let whole = c.loop-next.whole in
    let next = c.next.inside.seat in
    let inv = c.loop-next.invariant in
    let rest = All-pop (λ seat. seat.id ≡ c.args.table.now.table_id) c.loop-next.seats.items c.pop-in-loop-next.new.self.items (Some c.in-Some-pop.next) c.in-Some-pop.ensures.items inv.3 in
    let both = ap (λ v. v.0) c.join_seat.ensures.2 in (
      c.join_seat.ensures.0 ∙ inv.0,
      ap (λ v. v.1) c.join_seat.ensures.2 ∙ inv.1,
      omega (arith, ap (λ h. h.share) (ap g.P.Handed.hand both ∙ c.requires.passes.hands whole.me.0 next.me.0), inv.2),
      rest.0,
      c.requires.passes.more c.loop-next.seats.items c.pop-in-loop-next.new.self.items c.args.seats.items c.in-Some-pop.next next.me.0 whole.me.0 c.join_seat.new.seat.me.0
          c.in-Some-pop.ensures.items (ap (λ s. s.pass) c.next.view_is, c.next.invariant.2, c.next.invariant.1 ∙ ap (λ s. cond s.is_done 1 0) c.next.view_is) both inv.4,
    )
