use Rattle.flag_calls.proofs.OnBytes.{chosen_elements}
use Rattle.flag_calls.proofs.choice.select_in_first.Goals as goal

pub returns : goal.returns
returns g c = rw (chosen_elements c.args.flags.now c.args.a.now c.args.b.now) c.choose_in.ensures
