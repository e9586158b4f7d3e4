use Rattle.least_boards.proofs.Cited.{refl, sym, ap, ◌∙◌, subst, slots_items}
use Rattle.least_boards.specs.LeastBoards.{IsLeastEnd, LeastView}
use Rattle.least_boards.specs.LeastRules.{IsLeastRuled}
use Rattle.least_boards.proofs.Dealing.{leasts_first, leasts_more}
use Rattle.least_boards.proofs.LeastEnding.{least_ended}
use Rattle.least_boards.proofs.LeastSteps.{join_keeps}
use Rattle.least_boards.proofs.least_board.LeastBoard.close.Goals as goal

pub returns : goal.returns
returns g c =
    let here = c.self.inside in
    let slotted = here.slotted in
    let board : LeastView = record { id = here.table.shared.table_id; targets = g.T.Targets.targets slotted.targets; slots = slotted.slots; tiles = slotted.tiles; workers = slotted.workers } in
    let last = c.close_with.ensures.values.2 in
    let whole = c.join_seats-whole.result in
    let words = slots_items c.close_with.result.words in
    let ruled : IsLeastRuled board.targets board.slots board.tiles board.workers last.0 =
    subst (λ k. IsLeastRuled (g.T.Targets.targets k.targets) k.slots k.tiles k.workers last.0) c.self.invariant.0 last.1.0 in
    let ended = least_ended (c.hand_law.ensures.whole (λ p. p.hand)) board whole.id last.0 words whole.me.0 c.args.seats.items slotted.few_places
    (c.requires.every ∙ sym (ap (λ b. b.workers) c.self.view_is)) ruled last.1.1 last.2 c.join_seats-whole.ensures.passes in
    subst (λ b. IsLeastEnd b c.args.seats.items c.of.result) c.self.view_is (subst (IsLeastEnd board c.args.seats.items) (sym c.of.ensures) ended)

pub join_seats-whole-requires-clause-joins : goal.join_seats-whole-requires-clause-joins
join_seats-whole-requires-clause-joins g c = λ p q id other share s ruled at differ there. record {
  long = ruled.long;
  kept = join_keeps _ _ _ _ _ _ s.views id p ruled.kept at share (c.hand_law.ensures.join (λ r. r.hand)) other q differ there;
}

pub join_seats-whole-requires-clause-passes : goal.join_seats-whole-requires-clause-passes
join_seats-whole-requires-clause-passes g c = record { hands = λ p q. refl; first = leasts_first; more = leasts_more }
