use Rattle.std.proofs.Common.{◌≡◌, ◌≤◌, refl, sym, ap, ◌∙◌, length, arith}
use Rattle.std.proofs.lemmas.List.{length-replicate}
use Rattle.tile_plan.specs.Ranges.{Tiling}
use Rattle.boards.specs.Boards.{new_seat}
use Rattle.test_sharing.proofs.Crewed.{all_given, some_done}
use Rattle.test_sharing.proofs.crews.sums_before.Goals as goal

pub gather-requires-after_bounds : goal.gather-requires-after_bounds
gather-requires-after_bounds g c κs within =
    let board = c.in_ok-board.board in
    let new = c.in_ok-board.ensures in
    let seats = c.in_ok-crewed.crewed.seats in
    let crew = c.in_ok-crewed.ensures in
    let n = length board.sums in
    let some : 1 ≤ length seats.items =
    omega (arith, seats.ok, crew.as_many, c.in_ok-board.seats.ok, ap length new.seats_new, length-replicate c.get.result (new_seat board), c.get.ensures.least) in
    let same : c.new-plan.result.len ≡ n = ap (λ (p : Tiling). p.len) c.new-plan.ensures ∙ c.count.ensures.count ∙ sym (ap length new.tiles) in
    let once = c.close-ended.ensures.once.every (some_done (λ seat. seat.is_done) seats.items some crew.done) in
    all_given c.new-plan.result.len c.new-plan.result.tile n _ _ _ same (ap (λ (p : Tiling). p.tile) c.new-plan.ensures)
    crew.pieces once (λ t below. refl) (c.pieces_law.ensures n 1 _ _ _)
