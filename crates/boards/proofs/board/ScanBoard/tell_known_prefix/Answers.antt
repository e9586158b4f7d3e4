use Rattle.boards.proofs.Cited.{◌≡◌, ◌+◌, sym, ap, ◌∙◌, arith, length, seg_join, Prefix, before_tile, own_sum, coding_of}
use Rattle.boards.proofs.Moves.{tell_allowed}
use Rattle.boards.proofs.board.ScanBoard.tell_known_prefix.Goals as goal

pub fetch_max-requires : goal.fetch_max-requires
fetch_max-requires g c =
    let here = c.self.inside in
    let key = here.table.shared.key in
    let seat = c.seat.inside.seat in
    let m = coding_of g.T.M.Monoid.join g.T.M.Monoid.unit g.T.M.Packed.to_word g.T.M.Packed.from_word in
    let sums = g.T.Tiles.sums key.tiles in
    let same_board : seat.table_id ≡ here.table.shared.table_id = ap (λ s. s.id) c.seat.view_is ∙ c.requires.seat.0 ∙ sym (ap (λ b. b.id) c.self.view_is) in
    let of_key : c.args.self.now.sums ≡ sums = sym (ap (λ b. b.sums) c.self.view_is) ∙ sym (ap (λ k. g.T.Tiles.sums k.tiles) c.self.invariant.0) in
    let prefix : c.join-prefix.result ≡ before_tile g.T.M.Monoid.join g.T.M.Monoid.unit sums (c.args.t + 1) =
    c.join-prefix.ensures
    ∙ ap (λ s. seg_join g.T.M.Monoid.join s c.args.sum) (c.requires.before ∙ ap (λ ss. before_tile g.T.M.Monoid.join g.T.M.Monoid.unit ss c.args.t) of_key)
    ∙ ap (seg_join g.T.M.Monoid.join (before_tile g.T.M.Monoid.join g.T.M.Monoid.unit sums c.args.t)) (c.requires.sum ∙ ap (λ ss. own_sum g.T.M.Monoid.unit ss c.args.t) of_key)
    ∙ sym ((c.know_sums.ensures sums key.items).before_next c.args.t (omega (arith, ap length of_key, c.requires.tile))) in (
      same_board,
      omega (arith, c.self.invariant.1, ap (λ b. length b.sums) c.self.view_is, c.requires.tile),
      tell_allowed _ sums key.workers here.table.shared.table_id.slots seat.id c.rule_law.ensures.tell (c.code_law.ensures sums key.items).greater seat.me c.args.t 2 c.pack_status-word.result
          (omega (arith, ap length of_key, c.requires.tile)) (omega arith) (c.pack_status-word.ensures ∙ ap (λ s. m.pack (Prefix s.0 s.1)) prefix) c.seat.invariant.2,
    )
