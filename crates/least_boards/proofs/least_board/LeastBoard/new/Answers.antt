use Rattle.least_boards.proofs.Cited.{refl, sym, ap, ◌∙◌, arith}
use Rattle.least_boards.specs.LeastPasses.{first_least_pass}
use Rattle.least_boards.proofs.LeastSteps.{split_keeps}
use Rattle.least_boards.proofs.least_board.LeastBoard.new.Goals as goal

pub deal_seats-requires-clause-passes : goal.deal_seats-requires-clause-passes
deal_seats-requires-clause-passes g c κs within =
    let made = c.in_ok-table.ensures in
    let key = c.in_ok-table.table.shared.key in
    record {
      some = first_least_pass (g.T.Targets.targets key.targets) key.tiles;
      all = ap (λ v. v.0) made.4 ∙ ap (λ k. first_least_pass (g.T.Targets.targets k.targets) k.tiles c.args.workers) (sym made.5);
      fewer = λ n. refl;
      one = λ n. refl;
      idle = refl;
      keeps = λ n id many s ruled at. record {
        long = ruled.long;
        kept = split_keeps _ _ _ _ _ _ s.views id _ ruled.kept at (omega arith) (c.hand_law.ensures.split (λ p. p.hand)) many (omega arith);
      };
    }
