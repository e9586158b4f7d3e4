use Rattle.least_boards.proofs.Cited.{None, sym, ap, ◌∙◌, length, get_or, take, arith, length-map, length-take, slots_counts, slots_items, read_at}
use Rattle.least_boards.specs.LeastPasses.{place_of_word}
use Rattle.least_boards.proofs.LeastEnding.{told_at_slot}
use Rattle.least_boards.proofs.leasts.Leasts.get.Goals as goal

pub returns : goal.returns
returns g c =
    let here = c.self.inside in
    let words = slots_items here.closed.words in
    let counts = slots_counts here.closed.words in
    c.place_of.ensures
    ∙ ap place_of_word (sym (read_at words c.args.slot c.word.result 0 c.word.ensures).1)
    ∙ sym (told_at_slot words here.slots c.args.slot
    (omega (arith, c.requires, ap length c.self.view_is, length-map (take here.slots words) place_of_word, length-take here.slots words))
    (omega (arith, here.long, counts.0)))
    ∙ ap (λ xs. get_or xs c.args.slot None) c.self.view_is
