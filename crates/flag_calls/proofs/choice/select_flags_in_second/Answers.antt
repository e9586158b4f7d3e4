use Rattle.flag_calls.specs.Flags.{as_flag}
use Rattle.flag_calls.proofs.OnBytes.{chosen_bytes, other_way}
use Rattle.flag_calls.proofs.choice.select_flags_in_second.Goals as goal

pub returns : goal.returns
returns c = rw (chosen_bytes c.args.flags.now c.args.a.now c.args.b.now, ← other_way as_flag c.args.flags.now c.args.a.now c.args.b.now) c.choose_in.ensures
