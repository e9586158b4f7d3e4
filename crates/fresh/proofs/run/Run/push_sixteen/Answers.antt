use Rattle.fresh.proofs.InTurn.{written_on}
use Rattle.fresh.proofs.run.Run.push_sixteen.Goals as goal

pub returns : goal.returns
returns g c =
    let run = c.args.self.now in let at = c.args.start in
    let one = c.push_four.new.self in let two = c.push_four-2.new.self in let three = c.push_four-3.new.self in
    let all = c.push_four-4.new.self in
    written_on _ at 12 4 run three all
    (written_on _ at 8 4 run two three
    (written_on _ at 4 4 run one two (_, c.four-first.ensures, c.push_four.ensures) (_, c.four-second.ensures, c.push_four-2.ensures))
    (_, c.four-third.ensures, c.push_four-3.ensures)) (_, c.four-fourth.ensures, c.push_four-4.ensures)
