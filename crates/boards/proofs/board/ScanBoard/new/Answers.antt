use Rattle.boards.proofs.Cited.{refl, sym, ap, ◌∙◌, arith, first_pass}
use Rattle.boards.proofs.board.ScanBoard.new.Goals as goal

pub deal_seats-requires-clause-passes : goal.deal_seats-requires-clause-passes
deal_seats-requires-clause-passes g c κs within =
    let made = c.in_ok-table.ensures in
    record {
      some = first_pass (g.T.Tiles.sums c.in_ok-table.table.shared.key.tiles);
      all = ap (λ v. v.0) made.4 ∙ ap (λ k. first_pass (g.T.Tiles.sums k.tiles) c.args.workers) (sym made.5);
      fewer = λ n. refl;
      one = λ n. refl;
      idle = refl;
      keeps = λ n id many s ruled at. record { long = ruled.long; kept = c.rule_law.ensures.split _ _ _ _ _ s.views id _ ruled.kept at many (omega arith) };
    }
