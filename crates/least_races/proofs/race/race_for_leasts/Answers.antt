use Rattle.std.proofs.Common.{◌≡◌, ◌≤◌, sym, ap, ◌∙◌, length, arith}
use Rattle.std.proofs.lemmas.List.{length-replicate}
use Rattle.tile_plan.specs.Ranges.{Tiling}
use Rattle.least_boards.specs.LeastBoards.{new_least_seat}
use Rattle.least_races.proofs.Leasts.{leasts_are}
use Rattle.least_races.proofs.race.race_for_leasts.Goals as goal

pub returns : goal.returns
returns g c =
    let board = c.in_ok-board.board in
    let new = c.in_ok-board.ensures in
    let seats = c.in_ok-seats.seats in
    let crew = c.in_ok-seats.ensures in
    let targets = g.T.Targets.targets c.args.targets.now in
    let slots = g.T.Targets.slot_count c.args.targets.now in
    let plan = c.new-plan.result in
    let some : 1 ≤ length seats.items =
    omega (arith, seats.ok, crew.as_many, c.in_ok-board.seats.ok, ap length new.seats_new, length-replicate c.get.result (new_least_seat board), c.get.ensures.least) in
    let whole : plan.len ≡ length board.targets = ap (λ (p : Tiling). p.len) c.new-plan.ensures ∙ c.places.ensures.count ∙ sym (ap length new.of_targets) in
    leasts_are board plan targets slots seats.items c.close.result
    (record { of_targets = new.of_targets; of_slots = new.of_slots })
    (record { whole = whole; cut = new.of_tiles })
    c.count.ensures.tile c.places.ensures.few some crew.done crew.facts c.close.ensures
