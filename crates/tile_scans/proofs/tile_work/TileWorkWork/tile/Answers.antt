use Rattle.tile_scans.proofs.Cited.{ap, arith}
use Rattle.tile_scans.proofs.Telling.{told_around, told_around_still}
use Rattle.tile_scans.proofs.tile_work.TileWorkWork.tile.Goals as goal

pub returns-clause-fact : goal.returns-clause-fact
returns-clause-fact g c =
    told_around c.args.t c.args.seat.now c.tell_known_sum.new.seat c.look_back.new.seat c.tell_known_prefix.new.seat
    (ap (λ s. s.pass) c.tell_known_sum.ensures.told) c.look_back.ensures.looks.kept (ap (λ s. s.pass) c.tell_known_prefix.ensures.told)
    (λ some. omega (arith, c.look_back.ensures.looks.counted, c.look_back.ensures.looks.at_least some))

pub returns-clause-facts : goal.returns-clause-facts
returns-clause-facts g c =
    told_around_still c.args.t c.args.seat.now c.tell_known_sum.new.seat c.look_back.new.seat c.tell_known_prefix.new.seat
    (ap (λ s. s.pass) c.tell_known_sum.ensures.told) c.look_back.ensures.looks.kept (ap (λ s. s.pass) c.tell_known_prefix.ensures.told)
