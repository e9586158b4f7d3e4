use Rattle.least_boards.proofs.Cited.{◌≡◌, ℕ, Bool, cond, sym, ap, ◌∙◌, arith}
use Rattle.least_boards.proofs.Claiming.{claim_allowed}
use Rattle.least_boards.proofs.LeastMoves.{allows_claims}
use Rattle.least_boards.proofs.least_board.LeastBoard.claim.Goals as goal

pub fetch_add-found-requires : goal.fetch_add-found-requires
fetch_add-found-requires g c =
    let here = c.self.inside in
    let key = here.table.shared.key in
    let seat = c.seat.inside.seat in
    let targets = g.T.Targets.targets key.targets in
    let homes = here.table.shared.table_id.slots in
    let same_board : seat.table_id ≡ here.table.shared.table_id = ap (λ s. s.id) c.seat.view_is ∙ c.requires.0 ∙ sym (ap (λ b. b.id) c.self.view_is) in
    let of_key : c.args.self.now.tiles ≡ key.tiles = sym (ap (λ b. b.tiles) c.self.view_is) ∙ sym (ap (λ k. k.tiles) c.self.invariant.0) in
    let tiles : seat.me.0.tiles ≡ key.tiles = ap (λ s. s.pass.tiles) c.seat.view_is ∙ c.requires.2 ∙ of_key in
    let unmarked : seat.me.0.hand.done ≡ 0 = c.seat.invariant.1 ∙ ap (λ (b : Bool). cond {A = ℕ} b 1 0) c.if-seat.false in (
      same_board,
      omega (arith, c.self.invariant.1),
      claim_allowed _ _ (λ p. p.tiles) _ _ here.slotted.slots _ _ homes seat.id
          (allows_claims targets key.slots key.tiles key.workers (c.hand_law.ensures.claim (λ p. p.hand)) (c.hand_law.ensures.done (λ p. p.hand)) (c.hand_law.ensures.few (λ p. p.hand)))
          (sym (ap (λ k. k.slots) c.self.invariant.0)) seat.me (omega (arith, key.few_tiles, key.few_workers)) tiles unmarked c.seat.invariant.2,
    )
