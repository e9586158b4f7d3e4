use Rattle.boards.proofs.Cited.{◌≡◌, sym, ap, ◌∙◌, subst, arith, ◌≤◌, length, code, coding_of, told_of, state_of, known_at, looked}
use Rattle.boards.proofs.Moves.{look_allowed}
use Rattle.boards.proofs.Telling.{look_told, seat_after}
use Rattle.boards.proofs.board.ScanBoard.look.Goals as goal

pub load-word-requires : goal.load-word-requires
load-word-requires g c =
    let here = c.self.inside in
    let key = here.table.shared.key in
    let seat = c.seat.inside.seat in
    let sums = g.T.Tiles.sums key.tiles in
    let same_board : seat.table_id ≡ here.table.shared.table_id = ap (λ s. s.id) c.seat.view_is ∙ c.requires.seat.0 ∙ sym (ap (λ b. b.id) c.self.view_is) in
    let of_key : c.args.self.now.sums ≡ sums = sym (ap (λ b. b.sums) c.self.view_is) ∙ sym (ap (λ k. g.T.Tiles.sums k.tiles) c.self.invariant.0) in
    let same_sums : seat.me.0.sums ≡ sums = ap (λ s. s.pass.sums) c.seat.view_is ∙ c.requires.seat.1 ∙ of_key in (
      same_board,
      omega (arith, c.self.invariant.1, ap (λ b. length b.sums) c.self.view_is, c.requires.tile),
      look_allowed _ sums key.workers here.table.shared.table_id.slots seat.id c.rule_law.ensures.look seat.me c.args.t (omega (arith, ap length of_key, c.requires.tile)) same_sums c.seat.invariant.2,
    )

pub returns : goal.returns
returns g c =
    let here = c.self.inside in
    let seat = c.seat.inside.seat in
    let m = coding_of g.T.M.Monoid.join g.T.M.Monoid.unit g.T.M.Packed.to_word g.T.M.Packed.from_word in
    let sums = g.T.Tiles.sums here.counted.tiles in
    let same_sums : seat.me.0.sums ≡ sums = ap (λ s. s.pass.sums) c.seat.view_is ∙ c.requires.seat.1 ∙ sym (ap (λ b. b.sums) c.self.view_is) in
    let saw = c.load-word.ensures.2 in
    let told = look_told _ sums (c.code_law.ensures sums here.counted.items) c.args.t saw.0 c.load-word.result c.read_status.result c.read_status.ensures
    (saw.1 ∙ ap (λ ss. code m ss c.args.t saw.0) same_sums) saw.2 in
    let seen = seat_after (λ p. looked p c.args.t (state_of c.read_status.result)) seat.table_id c.load-word.new.seat.table_id seat.me.0 c.load-word.new.seat.me.0 c.seat.inside.done c.args.seat.now
    c.seat.view_is c.load-word.ensures.0 (ap (λ v. v.0) saw.4 ∙ ap (looked seat.me.0 c.args.t) (sym told.1)) in
    record {
      same = (ap (λ s. s.id) seen ∙ c.requires.seat.0, ap (λ s. s.pass.sums) seen ∙ c.requires.seat.1);
      lawful = told.0 ∙ ap (λ b. told_of g.T.M.Monoid.join g.T.M.Monoid.unit b.sums c.args.t (state_of c.read_status.result)) c.self.view_is;
      risen = subst (λ p. known_at c.args.t p ≤ state_of c.read_status.result) (ap (λ s. s.pass) c.seat.view_is) (subst (λ n. known_at c.args.t seat.me.0 ≤ n) (sym told.1) saw.3);
      seen = seen;
    }
