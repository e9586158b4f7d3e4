use Rattle.flag_calls.proofs.OnBytes.{chosen_elements, other_way}
use Rattle.flag_calls.proofs.choice.select_in_second.Goals as goal

pub returns : goal.returns
returns g c = rw (chosen_elements c.args.flags.now c.args.a.now c.args.b.now, ← other_way (λ x. x) c.args.flags.now c.args.a.now c.args.b.now) c.choose_in.ensures
