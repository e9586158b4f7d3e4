use Rattle.boards.proofs.Cited.{◌≡◌, refl, sym, ap, ◌∙◌, subst, arith, length, some, get_elem?}
use Rattle.std.specs.Slots.{slots_items}
use Rattle.boards.specs.Answers.{IsEnd}
use Rattle.boards.proofs.Dealing.{joined_first, joined_more}
use Rattle.boards.proofs.Ending.{all_ended}
use Rattle.boards.proofs.board.ScanBoard.close.Goals as goal

pub returns : goal.returns
returns g c =
    let here = c.self.inside in
    let key = here.table.shared.key in
    let sums = g.T.Tiles.sums key.tiles in
    let of_key : c.args.self.sums ≡ sums = sym (ap (λ b. b.sums) c.self.view_is) ∙ sym (ap (λ k. g.T.Tiles.sums k.tiles) c.self.invariant.0) in
    let workers : c.args.self.workers ≡ key.workers = sym (ap (λ b. b.workers) c.self.view_is) ∙ sym (ap (λ k. k.workers) c.self.invariant.0) in
    let behind : here.counted.count ≡ length sums = here.counted.counts ∙ sym (ap (λ k. length (g.T.Tiles.sums k.tiles)) c.self.invariant.0) in
    let last = c.close_with-closed.ensures.values.2 in
    let whole = c.join_seats-whole.result in
    let words = slots_items c.close_with-closed.result.words in
    subst (λ ss. IsEnd (length ss) c.args.seats.items c.min.result) (sym of_key)
    (all_ended _ sums c.rule_law.ensures.whole key.workers c.word-claims.result c.min.result whole.id last.0 words whole.me.0 c.args.seats.items
    key.some_workers (c.requires.every ∙ workers) last.1.0 last.1.1 last.2 (subst (λ i. get_elem? words i ≡ some c.word-claims.result) behind c.word-claims.ensures)
    (omega (arith, c.min.ensures, c.from.ensures)) c.join_seats-whole.ensures.passes)

pub join_seats-whole-requires-clause-joins : goal.join_seats-whole-requires-clause-joins
join_seats-whole-requires-clause-joins g c = λ p q id other share s ruled at differ there. record {
  long = ruled.long;
  kept = c.rule_law.ensures.join _ _ _ _ _ s.views id other p q ruled.kept at differ there share;
}

pub join_seats-whole-requires-clause-passes : goal.join_seats-whole-requires-clause-passes
join_seats-whole-requires-clause-passes g c = record {
  hands = λ p q. refl;
  first = joined_first;
  more = λ seats rest all next p whole now taken is both. joined_more seats rest all next p whole now taken is both (c.rule_law.ensures.added whole p);
}
