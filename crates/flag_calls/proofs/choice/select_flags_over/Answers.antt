use Rattle.flag_calls.proofs.OnBytes.{chosen_bytes}
use Rattle.flag_calls.proofs.choice.select_flags_over.Goals as goal

pub returns : goal.returns
returns c = rw (chosen_bytes c.args.flags.now c.args.a.now c.args.b.now) c.choose_over.ensures
