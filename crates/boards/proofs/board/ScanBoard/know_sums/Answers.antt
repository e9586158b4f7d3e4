use Rattle.boards.proofs.Cited.{ap, subst, SumsLaws}
use Rattle.boards.proofs.board.ScanBoard.know_sums.Goals as goal

pub returns : goal.returns
returns g c =
    let here = c.self.inside in
    subst (λ ss. SumsLaws g.T.M.Monoid.is_item g.T.M.Monoid.join g.T.M.Monoid.unit ss) (ap (λ b. b.sums) c.self.view_is) (c.know_sums.ensures (g.T.Tiles.sums here.counted.tiles) here.counted.items)
