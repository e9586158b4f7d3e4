use Rattle.least_boards.proofs.Cited.{◌≡◌, sym, ap, ◌∙◌, arith}
use Rattle.least_boards.proofs.LeastMoves.{least_allowed}
use Rattle.least_boards.proofs.least_board.LeastBoard.least.Goals as goal

pub load-word-requires : goal.load-word-requires
load-word-requires g c =
    let here = c.self.inside in
    let key = here.table.shared.key in
    let seat = c.seat.inside.seat in
    let targets = g.T.Targets.targets key.targets in
    let homes = here.table.shared.table_id.slots in
    let same_board : seat.table_id ≡ here.table.shared.table_id = ap (λ s. s.id) c.seat.view_is ∙ c.requires.seat.0 ∙ sym (ap (λ b. b.id) c.self.view_is) in
    let of_key : c.args.self.now.targets ≡ targets = sym (ap (λ b. b.targets) c.self.view_is) ∙ sym (ap (λ k. g.T.Targets.targets k.targets) c.self.invariant.0) in
    let last = ap (λ b. b.slots) c.self.view_is in (
      same_board,
      omega (arith, c.self.invariant.1, last, c.requires.slot),
      least_allowed targets key.slots key.tiles key.workers (c.hand_law.ensures.same (λ p. p.hand)) homes seat.id seat.me c.args.slot
          (omega (arith, last, ap (λ k. k.slots) c.self.invariant.0, c.requires.slot)) (ap (λ s. s.pass.targets) c.seat.view_is ∙ c.requires.seat.1 ∙ of_key) c.seat.invariant.2,
    )
