use Rattle.boards.proofs.Cited.{◌≡◌, refl, sym, ap, ◌∙◌, subst, ◌+◌, ◌-◌, arith, IsTrue, is_seg_item, seg_join, between_tiles, own_sum}
use Rattle.boards.proofs.Walking.{walk_met, walk_more}
use Rattle.boards.proofs.board.ScanBoard.look_back.Goals as goal

pub join-after-requires-clause-second : goal.join-after-requires-clause-second
join-after-requires-clause-second g c =
    subst (λ s. IsTrue (is_seg_item g.T.M.Monoid.is_item s)) (sym c.loop-at.invariant.3) (c.know_sums.ensures.middle c.loop-at.at c.args.t)

pub loop-at-preserved : goal.loop-at-preserved
loop-at-preserved g c =
    let sums = c.args.self.now.sums in
    let t = c.args.t in
    let at = c.loop-at.at in
    let inv = c.loop-at.invariant in
    let next : at ≡ at - 1 + 1 = omega arith in (
      omega arith,
      c.in-Sum.ensures.same,
      c.in-Sum.ensures.done ∙ inv.2,
      c.join-after.ensures
          ∙ ap (λ s. seg_join g.T.M.Monoid.join s c.loop-at.after) c.in-Sum.ensures.found
          ∙ ap (seg_join g.T.M.Monoid.join (own_sum g.T.M.Monoid.unit sums (at - 1))) (inv.3 ∙ ap (λ k. between_tiles g.T.M.Monoid.join g.T.M.Monoid.unit sums k t) next)
          ∙ sym (c.know_sums.ensures.one_more (at - 1) t (omega arith) (omega (arith, c.requires.tile))),
      walk_more t at (at - 1) 1 c.args.seat.now.pass c.loop-at.seat.pass c.find.new.seat.pass next inv.0 inv.4 c.in-Sum.ensures.step refl,
    )

pub returns-in-Prefix-clause-looks : goal.returns-in-Prefix-clause-looks
returns-in-Prefix-clause-looks g c =
    let t = c.args.t in
    let at = c.loop-at.at in
    let next : at ≡ at - 1 + 1 = omega arith in
    walk_met t at (at - 1) 2 c.args.seat.now.pass c.loop-at.seat.pass c.find.new.seat.pass next c.loop-at.invariant.0 c.loop-at.invariant.4 c.in-Prefix.ensures.step (t - (at - 1)) refl refl
