use Rattle.least_boards.proofs.Cited.{◌≡◌, sym, ap, ◌∙◌, get_or, None, arith}
use Rattle.least_boards.proofs.LeastMoves.{lower_allowed}
use Rattle.least_boards.proofs.least_board.LeastBoard.lower.Goals as goal

pub fetch_min-requires : goal.fetch_min-requires
fetch_min-requires g c =
    let here = c.self.inside in
    let key = here.table.shared.key in
    let seat = c.seat.inside.seat in
    let targets = g.T.Targets.targets key.targets in
    let homes = here.table.shared.table_id.slots in
    let same_board : seat.table_id ≡ here.table.shared.table_id = ap (λ s. s.id) c.seat.view_is ∙ c.requires.seat.0 ∙ sym (ap (λ b. b.id) c.self.view_is) in
    let of_key = sym (ap (λ b. get_or b.targets c.args.place None) c.self.view_is) ∙ sym (ap (λ k. get_or (g.T.Targets.targets k.targets) c.args.place None) c.self.invariant.0) in
    let last = ap (λ b. b.slots) c.self.view_is in (
      same_board,
      omega (arith, c.self.invariant.1, last, c.requires.slot),
      lower_allowed targets key.slots key.tiles key.workers (c.hand_law.ensures.same (λ p. p.hand)) homes seat.id seat.me c.args.slot c.from.result
          (omega (arith, last, ap (λ k. k.slots) c.self.invariant.0, c.requires.slot)) (ap (λ n. get_or targets n None) c.from.ensures ∙ sym of_key ∙ c.requires.target) c.seat.invariant.2,
    )
