use Rattle.boards.proofs.Cited.{◌≡◌, ℕ, Bool, cond, sym, ap, ◌∙◌, arith, length, coding_of, claim_allowed}
use Rattle.boards.proofs.Moves.{allows_claims}
use Rattle.boards.proofs.board.ScanBoard.claim.Goals as goal

pub fetch_add-found-requires : goal.fetch_add-found-requires
fetch_add-found-requires g c =
    let here = c.self.inside in
    let key = here.table.shared.key in
    let seat = c.seat.inside.seat in
    let slots = here.table.shared.table_id.slots in
    let m = coding_of g.T.M.Monoid.join g.T.M.Monoid.unit g.T.M.Packed.to_word g.T.M.Packed.from_word in
    let sums = g.T.Tiles.sums key.tiles in
    let same_board : seat.table_id ≡ here.table.shared.table_id = ap (λ s. s.id) c.seat.view_is ∙ c.requires.0 ∙ sym (ap (λ b. b.id) c.self.view_is) in
    let same_sums : seat.me.0.sums ≡ sums = ap (λ s. s.pass.sums) c.seat.view_is ∙ c.requires.1 ∙ sym (ap (λ b. b.sums) c.self.view_is) ∙ sym (ap (λ k. g.T.Tiles.sums k.tiles) c.self.invariant.0) in
    let last : here.counted.count ≡ length sums = here.counted.counts ∙ sym (ap (λ k. length (g.T.Tiles.sums k.tiles)) c.self.invariant.0) in
    let unmarked : seat.me.0.hand.done ≡ 0 = c.seat.invariant.1 ∙ ap (λ (b : Bool). cond {A = ℕ} b 1 0) c.if-seat.false in (
      same_board,
      omega (arith, c.self.invariant.1, here.counted.counts),
      claim_allowed _ _ (λ p. length p.sums) _ _ here.counted.count _ _ slots seat.id
          (allows_claims m sums key.workers c.rule_law.ensures.claim c.rule_law.ensures.done c.rule_law.ensures.few)
          last seat.me (omega (arith, key.few, key.few_workers)) (ap length same_sums) unmarked c.seat.invariant.2,
    )
